use Rattle.std.proofs.Common.{◌≡◌, ◌∙◌, false, List, subst, sym}
use Rattle.std.specs.List.{flat_map}
use Rattle.rr_window.specs.declared.change.Change.{Change}
use Rattle.rr_shell.specs.Watches.{bytes_of, change_said, IsAdded, IsPiece, IsToldOf}
use Rattle.rr_shell.proofs.WatchLemmas.{front_behind, front_of_added, no_piece, said_more, said_nothing, told_all, told_front, told_late}
use Rattle.rr_shell.proofs.watching.show_changes.Given.{Over}
use Rattle.rr_shell.proofs.watching.show_changes.Goals as goal

pub looks-init : goal.looks-init
looks-init g c =
    record {
      piece = no_piece (bytes_of c.args.prefix.now) (g.A.Asked.told c.args.asked.now) c.requires;
      added = said_nothing c.args.json (g.A.Asked.told c.args.asked.now) (g.O.Sink.printing c.args.out.now) c.requires;
    }

pub returns-in_err-looked-clause-front : goal.returns-in_err-looked-clause-front
returns-in_err-looked-clause-front g c =
    front_behind (g.O.Sink.printing c.args.out.now) (g.O.Sink.printing c.looks.out) (g.O.Sink.printing c.look_once.new.out) (flat_map (change_said c.args.json) (g.A.Asked.told c.looks.asked)) c.looks.invariant.added.0 c.in_err-looked.ensures.front

missed : (g : Over) (c : goal.Then-not-goes_on g) → c.in_ok-looked.looked.goes_on ≡ false
missed g c = sym c.goes_on-goes_on.ensures ∙ c.if-not-goes_on.true

late_told : (g : Over) (c : goal.Then-not-goes_on g) → IsToldOf c.args.json (bytes_of c.args.prefix.now) (g.O.Sink.printing c.args.out.now) (g.O.Sink.printing c.look_once.new.out)
late_told g c =
    told_late c.args.json (bytes_of c.args.prefix.now) (g.A.Asked.told c.looks.asked) (g.O.Sink.printing c.args.out.now) (g.O.Sink.printing c.looks.out) (g.O.Sink.printing c.look_once.new.out) c.looks.invariant.piece c.looks.invariant.added
    (rw (missed g c) at c.in_ok-looked.ensures.look)

pub returns-then-not-goes_on-clause-told : goal.returns-then-not-goes_on-clause-told
returns-then-not-goes_on-clause-told g c = late_told g c

pub returns-then-not-goes_on-clause-front : goal.returns-then-not-goes_on-clause-front
returns-then-not-goes_on-clause-front g c =
    told_front c.args.json (bytes_of c.args.prefix.now) (g.O.Sink.printing c.args.out.now) (g.O.Sink.printing c.look_once.new.out) (late_told g c)

last_told : (g : Over) (c : goal.Then-is_last g) → IsToldOf c.args.json (bytes_of c.args.prefix.now) (g.O.Sink.printing c.args.out.now) (g.O.Sink.printing c.look_once.new.out)
last_told g c =
    let look = rw (sym c.goes_on-goes_on.ensures ∙ c.if-not-goes_on.false) at c.in_ok-looked.ensures.look in
    told_all c.args.json (bytes_of c.args.prefix.now) (g.A.Asked.told c.look_once.new.asked) (g.O.Sink.printing c.args.out.now) (g.O.Sink.printing c.look_once.new.out) look.0
    (said_more c.args.json (bytes_of c.args.prefix.now) (g.A.Asked.told c.looks.asked) (g.A.Asked.told c.look_once.new.asked) (g.O.Sink.printing c.args.out.now) (g.O.Sink.printing c.looks.out) (g.O.Sink.printing c.look_once.new.out) c.looks.invariant.added look)

pub returns-then-is_last-clause-told : goal.returns-then-is_last-clause-told
returns-then-is_last-clause-told g c = last_told g c

pub returns-then-is_last-clause-front : goal.returns-then-is_last-clause-front
returns-then-is_last-clause-front g c =
    told_front c.args.json (bytes_of c.args.prefix.now) (g.O.Sink.printing c.args.out.now) (g.O.Sink.printing c.look_once.new.out) (last_told g c)

pub looks-preserved : goal.looks-preserved
looks-preserved g c =
    let look = rw (sym c.goes_on-goes_on.ensures ∙ c.if-not-goes_on.false) at c.in_ok-looked.ensures.look in
    record {
      piece = subst (λ (l : List Change). IsPiece (bytes_of c.args.prefix.now) l) (sym c.rest.ensures) look.0;
      added = subst (λ (l : List Change). IsAdded (g.O.Sink.printing c.args.out.now) (g.O.Sink.printing c.look_once.new.out) (flat_map (change_said c.args.json) l)) (sym c.rest.ensures)
          (said_more c.args.json (bytes_of c.args.prefix.now) (g.A.Asked.told c.looks.asked) (g.A.Asked.told c.look_once.new.asked) (g.O.Sink.printing c.args.out.now) (g.O.Sink.printing c.looks.out) (g.O.Sink.printing c.look_once.new.out) c.looks.invariant.added look);
    }

pub returns-clause-front : goal.returns-clause-front
returns-clause-front g c =
    front_of_added (g.O.Sink.printing c.args.out.now) (g.O.Sink.printing c.looks.out) (flat_map (change_said c.args.json) (g.A.Asked.told c.looks.asked)) c.looks.invariant.added.0
