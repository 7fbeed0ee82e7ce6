use Rattle.std.proofs.Common.{◌≡◌, ◌∙◌, ℕ, List, [], ap, subst}
use Rattle.rr_types.specs.declared.command.Command.{Command}
use Rattle.rr_journal.specs.Held.{Holds}
use Rattle.rr_model.specs.LostDisks.{decisions_of}
use Rattle.rr_folders.proofs.renewal.write_renewal.Goals as goal

pub returns : goal.returns
returns g c = record {
  holds = λ t few_1 few_2 blank.
      let opened = c.in-Ok.ensures.table t [] few_1 few_2 blank in
      let ready = c.in-Ok.ensures.journal in
      let none : c.in-Ok.journal.next ≡ 0 = ready.2 ∙ opened.2 in
      let written = c.in_ok-append_all.ensures.table (c.in-Ok.ensures.tells t) opened.0 none in
      let own = c.in_ok-append_all.ensures.own in
      let list = decisions_of c.commands.result.now in (
        written.0,
        ap g.D.Disk.areas c.into_disk.ensures ∙ written.1,
        subst (λ (l : List Command). Holds c.args.nodes c.args.node written.0 (decisions_of l)) c.commands.ensures
            (subst (λ (p : ℕ). Holds c.args.nodes p written.0 list) (own.1 ∙ ready.1)
            (subst (λ (n : ℕ). Holds n c.append_all.new.journal.node written.0 list) (own.0 ∙ ready.0) written.2.holds)),
      );
}
