use Rattle.std.proofs.Common.{rules, ◌≡◌, ◌≢◌, ◌<◌, ◌++◌, [], length, None, Some, ℕ, suc, ◌+◌, ◌≤◌, List, refl, sym, ap, ◌∙◌, arith}
use Rattle.std.proofs.lemmas.List.{length-append}
use Rattle.rr_text.specs.Reading.{cut_at}
use Rattle.rr_account.specs.Differences.{first_line, rest_by, behind, are_alike}
use Rattle.rr_account.proofs.difference.first_of.Goals as goal

pub lines-init : goal.lines-init
lines-init c = (0, refl, refl, refl, tt, c.requires, omega arith)

pub returns-in_default-front : goal.returns-in_default-front
returns-in_default-front c =
    let (k, line, ours, theirs, alike, differ, fits) = c.lines.invariant in
    (k, line, alike, c.in-Some.ensures.line ∙ ap first_line ours, sym (ap first_line (sym theirs ∙ c.in_default-front.ensures.none refl)), λ e. cc)

pub returns-then-is_other : goal.returns-then-is_other
returns-then-is_other c =
    let (k, line, ours, theirs, alike, differ, fits) = c.lines.invariant in
    (k, line, alike, c.in-Some.ensures.line ∙ ap first_line ours, c.in-Some-front.ensures.line ∙ ap first_line theirs, λ e. c.is_other.ensures.apart c.if-is_other.true cc)

pub lines-preserved : goal.lines-preserved
lines-preserved c =
    let (k, line, ours, theirs, alike, differ, fits) = c.lines.invariant in
    let own = c.in-Some.own.now in
    let same = c.is_other.ensures.same c.if-is_other.false in
    let our_split = c.in-Some.ensures.all.0 in
    let our_length = ap length our_split ∙ length-append own c.in-Some.own_behind.now in
    let next = sym (c.in-Some.ensures.line ∙ ap first_line ours) ∙ ap (λ l. Some l) same ∙ c.in-Some-front.ensures.line ∙ ap first_line theirs in (
      suc k,
      omega (arith, line),
      c.in-Some.ensures.behind ∙ ap (λ t. rest_by (cut_at 10 t)) ours,
      c.in-Some-front.ensures.behind ∙ ap (λ t. rest_by (cut_at 10 t)) theirs,
      (alike, next),
      (λ e. differ (our_split ∙ ap (λ l. l ++ c.in-Some.own_behind.now) same ∙ ap (λ r. c.in-Some-front.other.now ++ r) e ∙ sym c.in-Some-front.ensures.all.0)),
      omega (arith, fits, our_length, c.in-Some.ensures.all.1),
    )

pub returns-in-Some-front-2 : goal.returns-in-Some-front-2
returns-in-Some-front-2 c =
    let (k, line, ours, theirs, alike, differ, fits) = c.lines.invariant in
    (k, line, alike, sym (ap first_line (sym ours ∙ c.front.ensures.none c.in_default.is)), c.in-Some-front-2.ensures.line ∙ ap first_line theirs, λ e. cc)

pub returns-in-None : goal.returns-in-None
returns-in-None c =
    let (k, line, ours, theirs, alike, differ, fits) = c.lines.invariant in
    absurd (differ (c.front.ensures.none c.in_default.is ∙ sym (c.front-2.ensures.none c.in-None.is)))
