-- Page 01, "What the loader takes and gives": the answer of a launch, and what stands in both buffers after it.
-- Assumes nothing.
use Rattle.std.specs.Prelude.{Bool, List, [], ◌++◌, ℕ, ◌-◌, length, replicate, Option, None, is_ok}
use Rattle.std.specs.Result.{result_err}
use Rattle.verdict.specs.declared.Refusal.{Refusal}
use Rattle.verdict.specs.Rules.{pick}
use Rattle.memory.specs.Map.{records}
use Rattle.tdvf.specs.Image.{Fields, fields_of, sections}
use Rattle.tdvf.specs.Section.{handoff_section}
use Rattle.plan.specs.declared.Page.{Page}
use Rattle.plan.specs.Plan.{pages, plan_bytes}
use Rattle.handoff.specs.Pieces.{pieces}
use Rattle.handoff.specs.List.{list_bytes}
use Rattle.measure.specs.Stream.{stream, block_count}
use Rattle.sha384.specs.Hash.{sha384}
use Rattle.launch.specs.declared.Answer.{Answer}
use Rattle.launch.specs.Host.{Host}
use Rattle.launch.specs.Rules.{verdict, handoff_length}

-- ---- what an accepted launch makes

-- the page list
unfoldable pub page_list : Host → Fields → List Page
page_list h f = pages (handoff_length h f) (sections f)

-- the HOB list
unfoldable pub handoff_list : Host → Fields → List ℕ
handoff_list h f = list_bytes (handoff_section (sections f)).address (pieces (sections f) (records h.map))

-- the measured stream, in which alone more of the image is read than its fields: the data of measured pages
unfoldable pub stream_of : Host → List ℕ → List ℕ
stream_of h image = stream image (handoff_list h (fields_of image)) (page_list h (fields_of image))

-- ---- the answer

-- "Every refusal of a launch returns pages, HOB length and blocks 0, a measurement of 48 zero bytes"
unfoldable pub refused_answer : Option Refusal → Answer
refused_answer r = record { refusal = r; pages = 0; handoff = 0; blocks = 0; measurement = replicate 48 0 }

-- "or the number of planned pages, the length of the HOB list, the number of measured blocks and the 48-byte measurement"
unfoldable pub accepted_answer : Host → List ℕ → Answer
accepted_answer h image =
    let f = fields_of image in
    record {
      refusal = None;
      pages = length (page_list h f);
      handoff = handoff_length h f;
      blocks = block_count (page_list h f);
      measurement = sha384 (stream_of h image);
    }

unfoldable pub accepted : Host → List ℕ → Bool
accepted h image = is_ok (verdict h (fields_of image))

unfoldable pub answer : Host → List ℕ → Answer
answer h image = pick (accepted h image) (accepted_answer h image) (refused_answer (result_err (verdict h (fields_of image))))

-- ---- the buffers after the launch

-- "zero after the last plan record and after the HOB list"
unfoldable pub then_zeros : ℕ → List ℕ → List ℕ
then_zeros size bytes = bytes ++ replicate (size - length bytes) 0

-- a refusal leaves "both buffers zero over their full lengths, short buffers too"
unfoldable pub plan_after : Host → List ℕ → List ℕ
plan_after h image = then_zeros h.plan (pick (accepted h image) (plan_bytes (page_list h (fields_of image))) [])

unfoldable pub handoff_after : Host → List ℕ → List ℕ
handoff_after h image = then_zeros h.handoff (pick (accepted h image) (handoff_list h (fields_of image)) [])
