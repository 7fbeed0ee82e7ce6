use Rattle.std.proofs.Common.{◌≡◌, ◌++◌, drop}
use Rattle.std.specs.List.{flat_map}
use Rattle.rr_text.specs.TapeTexts.{tape_line}
use Rattle.rr_text.proofs.tape_text.push_tape_lines.Given as goal

-- what is printed and what is left make the whole
abbrev pub invariant-loop-event : goal.invariant-loop-event
invariant-loop-event l = l.out.items ++ flat_map tape_line (drop l.event-index l.events) ≡ l.fn.out.items ++ flat_map tape_line l.events
