-- How long a text behind another is, and the end of a line. Assumes nothing.
use mathlib.Core.Path.{◌≡◌, refl}
use lib.ListN.{length, length-append}
use Rattle.wire.proofs.Sets.{sets_then}
use Rattle.text.specs.Text.{newline}
use Rattle.text.proofs.Digits.{length_digits}
use Rattle.text.proofs.Bytes.{length_bytes}

pub length_newline : length newline ≡ 1
unfolding newline
length_newline = refl

-- texts written one behind the other are one text, and where it ends
pub ruleset one_behind_another = (sets_then, length-append, length_newline, length_digits, length_bytes)
