-- The digest by blocks: one block more, runs one after the other, and that blocks folded are the hash value after their
-- concatenation. Assumes nothing.
use Rattle.std.proofs.Common.{◌≡◌, ℕ, zero, suc, ◌+◌, ◌*◌, ◌<◌, ◌≤◌, List, [], length, get_or, drop, sym, refl, ap, ◌∙◌, ap₂, add-zero, add_assoc, add-suc, zero-add, add-one, arith, drop_of_length-le}
use Rattle.sha384.specs.declared.State.{State}
use Rattle.sha384.specs.Constants.{H⁰}
use Rattle.sha384.specs.Padding.{block}
use Rattle.sha384.specs.Hash.{compressed, after, finished, sha384}
use Rattle.sha384.proofs.Hash.{pieces}
use Rattle.measure.specs.Stream.{joined, folded}
use Rattle.measure.proofs.Length.{Blocks, joined_length, joined-block}

module _ (f : ℕ → List ℕ) (s : State) (n : ℕ) where
  pub folded-none : s ≡ folded f s n 0
  unfolding folded
  folded-none = refl

  pub folded_more : (q : ℕ) → compressed (folded f s n q) (f (n + q)) ≡ folded f s n (q + 1)
  unfolding folded
  folded_more q = rw (add-one q)

  -- turns are one run
  pub folded-add : (a b : ℕ) → folded f (folded f s n a) (n + a) b ≡ folded f s n (a + b)
  unfolding folded
  folded-add a zero = rw (add-zero a)
  folded-add a (suc b) = rw (add-suc a b) (ap₂ compressed (folded-add a b) (ap f (add_assoc n a b)))

-- the same blocks give the same value
pub folded-same : (f g : ℕ → List ℕ) (s : State) (q : ℕ) → ((i : ℕ) → i < q → f i ≡ g i) → folded f s 0 q ≡ folded g s 0 q
unfolding folded
folded-same f g s zero h = refl
folded-same f g s (suc q) h =
    ap₂ compressed (folded-same f g s q (λ i l. h i (omega arith))) (ap f (zero-add q) ∙ h q (omega arith) ∙ ap g (sym (zero-add q)))

-- the blocks of a message, folded, are the hash value after them
folded_after : (s : State) (m : List ℕ) (q : ℕ) → folded (block m) s 0 q ≡ after s m q
unfolding folded after
folded_after s m zero = refl
folded_after s m (suc q) = ap₂ compressed (folded_after s m q) (ap (block m) (zero-add q))

pub folded-joined : (bs : List (List ℕ)) (s : State) (q : ℕ) → Blocks bs → q ≤ length bs → folded (λ i. get_or bs i []) s 0 q ≡ after s (joined bs) q
unfolding block
folded-joined bs s q b h =
    folded-same (λ i. get_or bs i []) (block (joined bs)) s q (λ i l. sym (joined-block bs b i (omega arith)))
    ∙ folded_after s (joined bs) q

-- so all of them, finished, are SHA-384 of their concatenation
pub finished-joined : (bs : List (List ℕ)) → Blocks bs → finished (folded (λ i. get_or bs i []) H⁰ 0 (length bs)) [] (128 * length bs) ≡ sha384 (joined bs)
finished-joined bs b =
    let m : List ℕ = joined bs in
    let q : ℕ = length bs in
    let long : length m ≡ 128 * q = joined_length bs b in
    let none : drop (128 * q) m ≡ [] = drop_of_length-le m {i = 128 * q} (omega arith) in
    ap (λ (r : State). finished r [] (128 * q)) (folded-joined bs H⁰ q b (omega arith))
    ∙ ap₂ (λ (r : List ℕ) (k : ℕ). finished (after H⁰ m q) r k) (sym none) (sym long)
    ∙ sym (pieces m q (omega arith))
