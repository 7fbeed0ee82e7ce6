use Rattle.std.proofs.Common.{◌∙◌, ◌∷◌, ℕ, ap, codes, decimal}
use Rattle.std.proofs.lemmas.Result.{on_ok_weaker}
use Rattle.rr_run.specs.Differences.{dispute_text}
use Rattle.rr_run.proofs.PieceLemmas.{piece, piece_so}
use Rattle.rr_run.proofs.disputes.push_dispute_lines.Goals as goal

pub returns : goal.returns
returns c =
    let d = c.args.disputed.now in
    record {
      ok = on_ok_weaker c.push_byte.result
          (λ last. piece c.args.out.now.items (codes "rr: 3 Damaged 0 0\nnode") _ _ _ c.in_ok-push_bytes.ensures.ok
          (piece_so _ (32 ∷ decimal d.node) _ _ _ _ (ap (λ (i : ℕ). 32 ∷ decimal i) (c.from.ensures ∙ c.index.ensures.value)) c.in_ok-push_number_word.ensures.ok
          (piece _ (codes " failed: ") _ _ _ c.in_ok-push_bytes-2.ensures.ok
          (piece _ (dispute_text d.dispute) _ _ _ c.in_ok-push_dispute.ensures.ok last))))
          c.push_byte.ensures.ok;
    }
