use Rattle.rr_folders.proofs.AgreementLemmas.{none_between}
use Rattle.rr_folders.proofs.verdict.push_clash.Goals as goal

pub returns-in_ok-push-clause-alike : goal.returns-in_ok-push-clause-alike
returns-in_ok-push-clause-alike c = λ alike.
    absurd (none_between c.args.one.now c.args.other.now c.in-Facts.one c.in-Facts-other.other c.entries.result.now c.entries-2.result.now c.first_difference.result c.in-Some.difference
    c.in-Facts.is c.in-Facts-other.is c.entries.ensures.value c.entries-2.ensures.value c.entries.ensures.ascending c.first_difference.ensures c.in-Some.is alike)
