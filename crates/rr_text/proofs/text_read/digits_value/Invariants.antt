use Rattle.std.proofs.Common.{◌≡◌, ◌<◌, ◌^◌, true, take}
use Rattle.std.specs.List.{list_all}
use Rattle.std.specs.Str.Parse.{digits_value}
use Rattle.rr_text.specs.Numbers.{is_digit}
use Rattle.rr_text.proofs.text_read.digits_value.Given as goal

-- what came so far is digits, and this is the number that they write
abbrev pub invariant-loop-digit : goal.invariant-loop-digit
invariant-loop-digit l = (list_all is_digit (take l.digit-index l.word) ≡ true) × ((l.value ≡ digits_value 10 (take l.digit-index l.word)) × (l.value < 2 ^ 64))
