use Rattle.std.proofs.Common.{◌≡◌, ◌∙◌, ℕ, ap, slice_index}
use mathlib.Core.Path.{fun_ext}
use Rattle.rr_account.specs.Counts.{count_messages, count_heard, count_again, count_never, hearings, times, stopped}
use Rattle.rr_account.proofs.statistics.message_count.Goals as goal

pub returns-clause-counts : goal.returns-clause-counts
returns-clause-counts c =
    let kind = c.args.kind in
    let heard = times (hearings c.args.account.now) in
    let often : slice_index c.args.counts.now ≡ times (hearings c.args.account.now) = fun_ext c.requires in
    record {
      sent = c.count_messages.ensures ∙ ap (count_messages kind) c.lines-lines.ensures;
      heard = c.count_heard.ensures ∙ ap (λ (f : ℕ → ℕ). count_heard c.args.kind f c.lines-lines.result.now) often ∙ ap (count_heard kind heard) c.lines-lines.ensures;
      again = c.count_again.ensures ∙ ap (λ (f : ℕ → ℕ). stopped (count_again c.args.kind f c.lines-lines.result.now)) often ∙ ap (λ ls. stopped (count_again kind heard ls)) c.lines-lines.ensures;
      never = c.count_never.ensures ∙ ap (λ (f : ℕ → ℕ). count_never c.args.kind f c.lines-lines.result.now) often ∙ ap (count_never kind heard) c.lines-lines.ensures;
    }
