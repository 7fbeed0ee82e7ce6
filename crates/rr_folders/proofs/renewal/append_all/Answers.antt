use Rattle.std.proofs.Common.{◌≡◌, ◌∙◌, ◌++◌, List, ap₂}
use Rattle.std.proofs.lemmas.List.{take-append-drop}
use Rattle.rr_types.specs.declared.command.Command.{Command}
use Rattle.rr_folders.proofs.RenewalLemmas.{more_written}
use Rattle.rr_folders.proofs.renewal.append_all.Goals as goal

pub loop-rest-preserved : goal.loop-rest-preserved
loop-rest-preserved g c =
    let inv = c.loop-rest.invariant in
    let behind = c.in_ok-append.ensures.goes_on in
    let parted : c.split_at.result.0.now ++ c.split_at.result.1.now ≡ c.loop-rest.rest.now =
    ap₂ (λ (a b : List Command). a ++ b) c.split_at.ensures.front c.split_at.ensures.back ∙ take-append-drop c.min.result c.loop-rest.rest.now in (
      (behind.nodes ∙ inv.0.0, behind.node ∙ inv.0.1),
      λ t. c.in_ok-append.ensures.tells (inv.1 t),
      λ t held none. more_written g.D.Disk.areas c.args.commands.now c.split_at.result.0.now c.split_at.result.1.now c.loop-rest.rest.now c.loop-rest.journal
          c.append.new.journal parted behind (λ facts now long fit. c.in_ok-append.ensures.table (inv.1 t) facts now long fit) (inv.2 t held none),
    )
