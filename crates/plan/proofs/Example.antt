-- The definitions of the plan computed, at the places where an error looks right. Assumes nothing.
use mathlib.Core.Path.{◌≡◌, refl}
use mathlib.Core.List.{[], ◌∷◌}
use lib.ListN.{replicate}
use Rattle.wire.specs.Number.{le}
use Rattle.verdict.specs.Turns.{in_turn}
use Rattle.tdvf.specs.declared.Section.{Section}
use Rattle.plan.specs.Plan.{source_of, data_length, data_offset, page_of, pages_of, pages, page_bytes}
use Rattle.plan.specs.View.{slice_of, part, view, content, held}

-- a boot volume of two pages with one byte of raw data, at 7 of the image
pub boot : Section
boot = record { offset = 7; raw = 1; address = 0x1000; size = 0x2000; sort = 0; attributes = 1 }

pub boot-pages : pages 0 (boot ∷ []) ≡
    record { address = 0x1000; offset = 7; length = 1; sort = 0; measured = 1 } ∷
    record { address = 0x2000; offset = 0; length = 0; sort = 0; measured = 1 } ∷ []
unfolding boot pages pages_of page_of data_offset data_length source_of in_turn
boot-pages = refl

-- the first holds that byte and 4,095 zeros: the zero tail is part of the page
pub boot-holds : held (9 ∷ 9 ∷ 9 ∷ 9 ∷ 9 ∷ 9 ∷ 9 ∷ 5 ∷ 9 ∷ []) [] (record { address = 0x1000; offset = 7; length = 1; sort = 0; measured = 1 })
    ≡ 5 ∷ replicate 4095 0
unfolding held content view part slice_of
boot-holds = refl

-- a record's 16 bytes, and the record read back
pub bytes-are : page_bytes (record { address = 0x0102030405060000; offset = 0x00ABCDEF; length = 0x1000; sort = 1; measured = 1 })
    ≡ 0 ∷ 0 ∷ 6 ∷ 5 ∷ 4 ∷ 3 ∷ 2 ∷ 1 ∷ 0xEF ∷ 0xCD ∷ 0xAB ∷ 0 ∷ 0 ∷ 0x10 ∷ 1 ∷ 1 ∷ []
unfolding page_bytes le
bytes-are = refl

-- a TD HOB section is cut from the HOB list: 5,000 bytes of it
pub hob : Section
hob = record { offset = 0; raw = 0; address = 0x9000; size = 0x3000; sort = 2; attributes = 0 }

pub hob-pages : pages 5000 (hob ∷ []) ≡
    record { address = 0x9000; offset = 0; length = 4096; sort = 2; measured = 0 } ∷
    record { address = 0xA000; offset = 4096; length = 904; sort = 2; measured = 0 } ∷
    record { address = 0xB000; offset = 0; length = 0; sort = 2; measured = 0 } ∷ []
unfolding hob pages pages_of page_of data_offset data_length source_of in_turn
hob-pages = refl

-- the view answers nothing where the range passes the slice's end, the length passes 4,096 or the type is 3
pub past_the_end : view (1 ∷ 2 ∷ []) [] 1 2 0 ≡ []
unfolding view part slice_of
past_the_end = refl

pub too_long : view (replicate 5000 1) [] 0 4097 0 ≡ []
unfolding view part slice_of
too_long = refl

pub third-type : view (1 ∷ 2 ∷ []) (3 ∷ []) 0 1 3 ≡ []
unfolding view part slice_of
third-type = refl

pub of-the-list : view (1 ∷ 2 ∷ []) (3 ∷ []) 0 1 2 ≡ 3 ∷ []
unfolding view part slice_of
of-the-list = refl
