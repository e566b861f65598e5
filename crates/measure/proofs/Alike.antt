-- A page that is not measured gives the same blocks whatever it holds, and so does a measured one that holds the same.
-- Assumes nothing.
use Rattle.std.proofs.Common.{◌≡◌, ℕ, Bool, true, false, List, [], ◌∷◌, ◌++◌, refl, ap, ap₂, true≢false}
use mathlib.Core.Bool.{false≢true}
use Rattle.verdict.specs.Rules.{pick}
use Rattle.verdict.proofs.Each.{Each, each-cons}
use Rattle.plan.specs.declared.Page.{Page}
use Rattle.plan.specs.View.{held}
use Rattle.measure.specs.Stream.{add_tag, head_block, extend_blocks, is_measured, page_blocks, blocks_of, joined, stream}

module _ {A : Type 0} where
  pub pick_same : (m n : Bool) (u v d : A) → m ≡ n → (m ≡ true → u ≡ v) → pick m u d ≡ pick n v d
  pick_same true true u v d e h = h refl
  pick_same true false u v d e h = absurd (true≢false e)
  pick_same false true u v d e h = absurd (false≢true e)
  pick_same false false u v d e h = refl

pub blocks-alike : (p q : Page) (xs ys : List ℕ) → p.address ≡ q.address → is_measured p ≡ is_measured q → (is_measured p ≡ true → xs ≡ ys)
    → page_blocks p xs ≡ page_blocks q ys
unfolding page_blocks
blocks-alike p q xs ys address mark bytes =
    let us : List (List ℕ) = extend_blocks p.address xs in
    let vs : List (List ℕ) = extend_blocks q.address ys in
    let same = pick_same (is_measured p) (is_measured q) us vs [] mark (λ t. ap₂ extend_blocks address (bytes t)) in
    ap₂ (λ (c : List ℕ) (cs : List (List ℕ)). c ∷ cs) (ap (head_block add_tag) address) same

-- so the stream of pages is the same for two images in which the measured ones hold the same
pub stream-alike : (image other handoff : List ℕ) (ps : List Page) → Each (λ p. is_measured p ≡ true → held other handoff p ≡ held image handoff p) ps
    → stream other handoff ps ≡ stream image handoff ps
unfolding stream blocks_of
stream-alike image other handoff ps each = ap joined (all ps each)
  where
    all : (qs : List Page) → Each (λ p. is_measured p ≡ true → held other handoff p ≡ held image handoff p) qs
        → blocks_of other handoff qs ≡ blocks_of image handoff qs
    all [] h = refl
    all (q ∷ qs) h =
        let both = (each-cons _ q qs).0 h in
        ap₂ (λ (a b : List (List ℕ)). a ++ b) (blocks-alike q q (held other handoff q) (held image handoff q) refl refl both.0) (all qs both.1)
