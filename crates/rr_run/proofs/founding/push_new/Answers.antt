use Rattle.std.proofs.Common.{◌∙◌, ap, codes, decimal}
use Rattle.std.proofs.lemmas.Result.{on_ok_weaker}
use Rattle.rr_run.proofs.PieceLemmas.{piece, piece_so}
use Rattle.rr_run.proofs.founding.push_new.Goals as goal

pub returns : goal.returns
returns c =
    record {
      ok = on_ok_weaker c.push_byte.result
          (λ last. piece c.args.out.now.items (codes "rr: ") _ _ _ c.in_ok-push_bytes.ensures.ok
          (piece_so _ c.args.dir.now _ _ _ _ c.as_bytes.ensures.value c.in_ok-push_bytes-2.ensures.ok
          (piece _ (codes ": a new registry, with --nodes ") _ _ _ c.in_ok-push_bytes-3.ensures.ok
          (piece_so _ (decimal c.args.nodes) _ _ _ _ (ap decimal (c.from.ensures ∙ c.count.ensures.value)) c.in_ok-push_number.ensures.ok last))))
          c.push_byte.ensures.ok;
    }
