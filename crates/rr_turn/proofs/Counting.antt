-- Tapes that grow.
use Rattle.std.proofs.Common.{◌≤◌, length}
use Rattle.std.proofs.lemmas.List.Sums.{count_by-le-length}
use Rattle.rr_text.specs.Taped.{Taped}
use Rattle.rr_turn.specs.Recorded.{is_send, sent_on}

-- a tape has at least as many events as messages
pub sent_few : (t : Taped) → sent_on t ≤ length t.events
sent_few t = count_by-le-length is_send t.events
