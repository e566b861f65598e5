-- What a launch is given besides the image. Assumes nothing.
use Rattle.std.specs.Prelude.{Bool, not, ◌||◌, List, ℕ, ltb}
use Rattle.memory.specs.Map.{width_allowed}

pub record Host : Type 0 where
  -- the memory map's bytes
  pub map : List ℕ
  -- the guest address width
  pub width : ℕ
  -- the lengths of the plan buffer and of the HOB buffer
  pub plan : ℕ
  pub handoff : ℕ

abbrev pub host_with : List ℕ → ℕ → ℕ → ℕ → Host
host_with map width plan handoff = record { map = map; width = width; plan = plan; handoff = handoff }

-- 1: "plan buffer below 65,536 bytes or HOB buffer below 8,192"
unfoldable pub buffers_broken : Host → Bool
buffers_broken h = ltb h.plan 65536 || ltb h.handoff 8192

-- 2: "width is neither 48 nor 52"
unfoldable pub width_broken : Host → Bool
width_broken h = not (width_allowed h.width)
