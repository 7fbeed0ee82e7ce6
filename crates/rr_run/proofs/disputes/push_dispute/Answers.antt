use Rattle.std.proofs.Common.{◌∙◌, ◌∷◌, ℕ, ap, codes, decimal}
use Rattle.std.proofs.lemmas.Result.{on_ok_weaker}
use Rattle.rr_run.specs.Differences.{behind_space}
use Rattle.rr_run.proofs.PieceLemmas.{piece, piece_so}
use Rattle.rr_run.proofs.disputes.push_dispute.Goals as goal

pub returns : goal.returns
returns c =
    let d = c.args.dispute.now in
    record {
      ok = on_ok_weaker c.push_bytes-4.result
          (λ last. piece c.args.out.now.items (codes "instance") _ _ _ c.in_ok-push_bytes.ensures.ok
          (piece_so _ (32 ∷ decimal d.instance) _ _ _ _ (ap (λ (i : ℕ). 32 ∷ decimal i) (c.from.ensures ∙ c.number.ensures.value)) c.in_ok-push_number_word.ensures.ok
          (piece _ (codes " is decided as") _ _ _ c.in_ok-push_bytes-2.ensures.ok
          (piece _ (behind_space d.own) _ _ _ c.in_ok-push_behind_space.ensures.ok
          (piece _ (codes " here and as") _ _ _ c.in_ok-push_bytes-3.ensures.ok
          (piece _ (behind_space d.heard) _ _ _ c.in_ok-push_behind_space-2.ensures.ok last))))))
          c.push_bytes-4.ensures.ok;
    }
