-- Images of one length that agree in the offset word and in the descriptor have the same fields, so every rule sees the same. It holds of images
-- that are refused, too. Assumes nothing.
use mathlib.Core.Path.{◌≡◌, sym, ap, ◌∙◌}
use mathlib.Core.List.{List}
use Prim.Native.Nat.{ℕ, ◌+◌, ◌-◌, ◌*◌, ◌<◌, min}
use native.Mathlib.Omega.{arith}
use lib.ListN.{length, get_or, take, drop, length-take, length-drop}
use lib.Seq.{ext_get_or, get_or-take, get_or-drop}
use Rattle.wire.proofs.Number.{number_at-same}
use Rattle.tdvf.specs.Image.{offset_word, section_count, descriptor_at, fields_of}
use Rattle.tdvf.proofs.Descriptor.{fields-offset, fields-count}

-- parts of n bytes from `at` on, of lists of one length that agree there
pub part_same : (s t : List ℕ) (at n : ℕ) → length t ≡ length s → ((k : ℕ) → k < n → get_or t (at + k) 0 ≡ get_or s (at + k) 0)
    → take n (drop at t) ≡ take n (drop at s)
part_same s t at n e h =
    let here : length (take n (drop at t)) ≡ min n (length t - at) = length-take n (drop at t) ∙ ap (min n) (length-drop at t) in
    let there : length (take n (drop at s)) ≡ min n (length s - at) = length-take n (drop at s) ∙ ap (min n) (length-drop at s) in
    ext_get_or 0 (take n (drop at t)) (take n (drop at s)) (here ∙ ap (λ (l : ℕ). min n (l - at)) e ∙ sym there)
    (λ k l.
    let b : k < n = omega (arith, here) in
    get_or-take n (drop at t) k 0 b ∙ get_or-drop at t k 0 ∙ h k b ∙ sym (get_or-take n (drop at s) k 0 b ∙ get_or-drop at s k 0))

module _ (image other : List ℕ) (long : length other ≡ length image)
    (word : (k : ℕ) → k < 4 → get_or other ((length image - 32) + k) 0 ≡ get_or image ((length image - 32) + k) 0)
    (descriptor : (k : ℕ) → k < 16 + 32 * min 32 (section_count (fields_of image).descriptor)
    → get_or other ((fields_of image).offset + k) 0 ≡ get_or image ((fields_of image).offset + k) 0) where
  word_same : offset_word other ≡ offset_word image
  unfolding offset_word
  word_same = number_at-same 4 other image (length other - 32) (length image - 32) (λ k l. rw long (word k l))

  count_same : section_count (drop (offset_word image) other) ≡ section_count (drop (offset_word image) image)
  unfolding section_count
  count_same =
      number_at-same 4 (drop (offset_word image) other) (drop (offset_word image) image) 12 12
      (λ k l.
      let e : (fields_of image).offset + (12 + k) ≡ offset_word image + (12 + k) = ap (λ (d : ℕ). d + (12 + k)) (fields-offset image) in
      get_or-drop (offset_word image) other (12 + k) 0
      ∙ ap (λ (i : ℕ). get_or other i 0) (sym e)
      ∙ descriptor (12 + k) (omega arith)
      ∙ ap (λ (i : ℕ). get_or image i 0) e
      ∙ sym (get_or-drop (offset_word image) image (12 + k) 0))

  part-is : descriptor_at other (offset_word image) ≡ descriptor_at image (offset_word image)
  unfolding descriptor_at
  part-is =
      let n : ℕ = 16 + 32 * min 32 (section_count (drop (offset_word image) image)) in
      ap (λ (c : ℕ). take (16 + 32 * min 32 c) (drop (offset_word image) other)) count_same
      ∙ part_same image other (offset_word image) n long
      (λ k l.
      ap (λ (d : ℕ). get_or other (d + k) 0) (sym (fields-offset image))
      ∙ descriptor k (omega (arith, l, fields-count image))
      ∙ ap (λ (d : ℕ). get_or image (d + k) 0) (fields-offset image))

  -- THE THEOREM
  pub fields-same : fields_of other ≡ fields_of image
  unfolding fields_of
  fields-same = rw (long, word_same, part-is)
