use Rattle.std.proofs.Common.{ℕ, List, option_map, Bor, refl, ap}
use Rattle.rr_cli.specs.Ends.{seated, unseated}
use Rattle.rr_cli.proofs.migrate.migrate_by_words.Goals as goal

pub returns-in-Some-seat_of-clause-ends : goal.returns-in-Some-seat_of-clause-ends
returns-in-Some-seat_of-clause-ends g c =
    seated c.in-Some.folder.now c.in-Some-seat_of.seat.node c.in-Some-seat_of.seat.nodes (ap (option_map (λ (s : Bor (List ℕ)). s.now)) c.in-Some.is) c.in-Some-seat_of.ensures.some c.migrate_alone.ensures.ends

pub returns-in-None-clause-ends : goal.returns-in-None-clause-ends
returns-in-None-clause-ends g c = unseated (λ path p n is. c.in-None.ensures.none refl p n) c.end_without_seat-in-None.ensures refl
