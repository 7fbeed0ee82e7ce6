use Rattle.std.proofs.Common.{◌≡◌, ◌∙◌, sym, ap, subst, arith, rules}
use Rattle.std.specs.List.{AllByRecursion}
use Rattle.rr_types.specs.Registry.{registry_of}
use Rattle.rr_text.specs.Scripted.{Scripted, IsScriptLine}
use Rattle.rr_folders.specs.Exports.{export_of, commands_of}
use Rattle.rr_folders.proofs.ExportLemmas.{export_same}
use Rattle.rr_folders.proofs.exporting.export.Goals as goal

pub of_parts-requires : goal.of_parts-requires
of_parts-requires c =
    record {
      some = omega (arith, c.count-count.ensures.value, c.count-count.ensures.range.0);
      few = omega (arith, c.count-count.ensures.value, c.count-count.ensures.range.1);
      each = c.in_ok-lines.ensures.lawful c.args.nodes (omega (arith, c.count-count.ensures.value, c.count-count.ensures.range.0));
    }

pub returns-clause-same : goal.returns-clause-same
returns-clause-same c =
    let lines : c.of_parts.result.lines ≡ export_of (registry_of c.args.decided.now) = search rules in
    ap (λ ls. registry_of (commands_of ls)) lines ∙ export_same c.args.decided.now

pub returns-clause-taken : goal.returns-clause-taken
returns-clause-taken c = λ n some few.
    let lines : c.of_parts.result.lines ≡ c.in_ok-lines.lines.items = ap (λ (s : Scripted). s.lines) c.of_parts.ensures in
    record { some = some; few = few; each = subst (λ ls. AllByRecursion (IsScriptLine n) ls) (sym lines) (c.in_ok-lines.ensures.lawful n some) }
