use Rattle.std.proofs.Common.{◌≡◌, ◌++◌, drop, sym, ap, ◌∙◌, subst, refl}
use Rattle.std.specs.List.{fold}
use Rattle.rr_window.specs.Windows.{IsServed, with_addition, served_of, commands_of}
use Rattle.rr_window.proofs.Showing.{all_after, shown_all}
use Rattle.rr_window.proofs.publisher.show_all.Goals as goal

pub publish_as-requires : goal.publish_as-requires
publish_as-requires g c next is views held at =
    let b = g.W.WindowName.book in
    let s = c.args.writer.desk.shown.value in
    let es = drop c.args.writer.behind c.args.writer.log.items in
    let all : next ≡ served_of b (s.beginning.list ++ commands_of es) = is ∙ ap (λ x. fold with_addition x es) c.requires.served ∙ all_after b s.beginning.list es c.requires.behind in
    let of : IsServed b next = subst (IsServed b) (sym all) refl in
    (tt, of, of)

pub returns : goal.returns
returns g c =
    shown_all g.W.WindowName.book c.args.writer.desk.shown.value (drop c.args.writer.behind c.args.writer.log.items) c.publish_as.result.0.desk.shown.value (drop c.publish_as.result.0.behind c.publish_as.result.0.log.items) c.publish_as.result.1 c.requires.served c.requires.behind c.publish_as.ensures.values
