use Rattle.std.proofs.Common.{◌≡◌, length}
use Rattle.rr_text.specs.Reading.{pairs_at}
use Rattle.rr_text.proofs.FillLoop.{with_front}
use Rattle.rr_text.proofs.text_parse.pairs.Given as goal

-- the bytes so far and what the rest gives
abbrev pub invariant-loop-rest : goal.invariant-loop-rest
invariant-loop-rest l = with_front l.bytes.items (pairs_at l.rest) ≡ pairs_at l.word

abbrev pub decreases-loop-rest : goal.decreases-loop-rest
decreases-loop-rest l = length l.rest
