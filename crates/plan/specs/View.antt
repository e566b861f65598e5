-- Page 01, "The plan": the page view, and the 4,096 bytes that a page holds. Assumes nothing.
use Rattle.std.specs.Prelude.{◌&&◌, List, [], ◌++◌, ℕ, zero, suc, ◌+◌, leb, length, take, drop, replicate}
use Rattle.verdict.specs.Rules.{pick}
use Rattle.plan.specs.declared.Page.{Page}

-- "of the image for types 0 and 1, of the HOB list for type 2"; of nothing for "the type is 3 or more"
unfoldable pub slice_of : List ℕ → List ℕ → ℕ → List ℕ
slice_of image handoff zero = image
slice_of image handoff (suc zero) = image
slice_of image handoff (suc (suc zero)) = handoff
slice_of image handoff (suc (suc (suc t))) = []

-- "an empty part if the range isn't inside that slice", or "the length exceeds 4,096"
unfoldable pub part : List ℕ → ℕ → ℕ → List ℕ
part slice offset size = pick (leb (offset + size) (length slice) && leb size 4096) (take size (drop offset slice)) []

-- the page view: "is handed the image, the HOB list and a record's offset, length and type"
unfoldable pub view : List ℕ → List ℕ → ℕ → ℕ → ℕ → List ℕ
view image handoff offset size sort = part (slice_of image handoff sort) offset size

-- "A page holds its data and then zeros", 4,096 bytes in all
unfoldable pub content : List ℕ → List ℕ
content shown = take 4096 (shown ++ replicate 4096 0)

-- what a planned page holds
unfoldable pub held : List ℕ → List ℕ → Page → List ℕ
held image handoff p = content (view image handoff p.offset p.length p.sort)
