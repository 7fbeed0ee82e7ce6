use Rattle.std.proofs.Common.{◌∙◌, ◌≤◌, List, [], ℕ, rules, refl, subst, sym}
use Rattle.rr_sim.specs.Clusters.{Cluster, new_cluster}
use Rattle.rr_sim.proofs.ToldLaws.{ToldSoFar, told_none, told_more}
use Rattle.rr_lively.proofs.FinishLaws.{read_as, read_to}
use Rattle.rr_lively.proofs.finish.read_run.Goals as goal

pub loop-report-init : goal.loop-report-init
loop-report-init g c =
    let n = c.args.nodes in
    let ls = c.args.lines.now in
    record {
      told = subst (λ (start : Cluster). ToldSoFar n ls (new_cluster n) [] 2 ls start c.new-report.result.items) (sym c.in_ok-cluster.ensures.ok)
          (subst (λ (text : List ℕ). ToldSoFar n ls (new_cluster n) [] 2 ls (new_cluster n) text) (sym c.new-report.ensures.items) (told_none n ls (new_cluster n) [] refl));
      unprinted = refl;
    }

pub loop-report-preserved-in_ok-tell : goal.loop-report-preserved-in_ok-tell
loop-report-preserved-in_ok-tell g c =
    record {
      told = told_more c.args.nodes c.args.lines.now (new_cluster c.args.nodes) [] c.loop-report.line _ c.loop-report.rest.now c.in-Some.behind.now c.loop-report.cluster c.step.new.self c.tell.new.self c.loop-report.report.items c.tell.new.text.items c.in-Some.event
          c.loop-report.invariant.told (search rules) c.in_ok-step.ensures.ok c.in_ok-step.ensures.spelt c.in_ok-tell.ensures.kept c.in_ok-tell.ensures.told refl;
      unprinted = c.tell_read.ensures ∙ c.loop-report.invariant.unprinted;
    }

pub loop-report-preserved-in_ok-tell-2 : goal.loop-report-preserved-in_ok-tell-2
loop-report-preserved-in_ok-tell-2 g c =
    record {
      told = told_more c.args.nodes c.args.lines.now (new_cluster c.args.nodes) [] c.loop-report.line _ c.loop-report.rest.now c.in-Some.behind.now c.loop-report.cluster c.step.new.self c.tell.new.self c.loop-report.report.items c.tell.new.text.items c.in-Some.event
          c.loop-report.invariant.told (search rules) c.in_ok-step.ensures.ok c.in_ok-step.ensures.spelt c.in_ok-tell.ensures.kept c.in_ok-tell.ensures.told refl;
      unprinted = c.tell_read.ensures ∙ c.loop-report.invariant.unprinted;
    }

pub loop-report-preserved : goal.loop-report-preserved
loop-report-preserved g c =
    record {
      told = told_more c.args.nodes c.args.lines.now (new_cluster c.args.nodes) [] c.loop-report.line _ c.loop-report.rest.now c.in-Some.behind.now c.loop-report.cluster c.step.new.self c.tell.new.self c.loop-report.report.items c.tell.new.text.items c.in-Some.event
          c.loop-report.invariant.told (search rules) c.in_ok-step.ensures.ok c.in_ok-step.ensures.spelt c.in_ok-tell.ensures.kept c.in_ok-tell.ensures.told refl;
      unprinted = c.tell_read.ensures ∙ c.loop-report.invariant.unprinted;
    }

pub returns-clause-so_far : goal.returns-clause-so_far
returns-clause-so_far g c =
    read_as c.args.nodes c.loop-report.line c.args.bytes.now c.args.lines.now c.loop-report.rest.now _ c.loop-report.cluster _ c.loop-report.report.items c.loop-report.invariant.told (search rules) c.requires (search rules) c.cluster.view_is

pub returns-clause-read : goal.returns-clause-read
returns-clause-read g c =
    read_to c.args.nodes c.loop-report.line c.args.bytes.now c.args.lines.now c.loop-report.rest.now c.loop-report.cluster c.loop-report.report.items
    (subst (λ (n : ℕ). 1 ≤ n) c.count-count.ensures.value c.count-count.ensures.range.0) (subst (λ (n : ℕ). n ≤ 7) c.count-count.ensures.value c.count-count.ensures.range.1)
    c.loop-report.invariant.told (search rules) c.requires
