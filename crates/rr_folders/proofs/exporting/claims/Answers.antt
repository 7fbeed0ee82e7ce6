use Rattle.std.proofs.Common.{◌≡◌, ◌≤◌, ◌∙◌, ◌+◌, ◌++◌, ◌∷◌, [], ℕ, sym, ap, ap₂, subst, take}
use Rattle.std.specs.List.{AllByRecursion}
use Rattle.rr_text.specs.declared.script_line.ScriptLine.TheVariants.{Submit}
use Rattle.rr_text.specs.Scripted.{IsScriptLine}
use Rattle.rr_folders.specs.Exports.{owned, claim_of, export_of}
use Rattle.rr_folders.proofs.ExportLemmas.{claims_next, lawful_more}
use Rattle.rr_folders.proofs.exporting.claims.Goals as goal

pub loop-place-preserved : goal.loop-place-preserved
loop-place-preserved c =
    let names = c.args.names.now in
    let place = c.loop-place.place in
    let lines = c.loop-place.lines.items in
    let b = c.index-names-place.result in
    let numbered : c.owned-seq.result ≡ owned b.1.owner (take place names) = c.owned-seq.ensures.value ∙ ap₂ (λ client m. owned client m) c.owner.ensures c.split_at.ensures.front in
    let claimed : c.claim_of-command.result ≡ claim_of (owned b.1.owner (take place names) + 1) b = c.claim_of-command.ensures ∙ ap (λ n. claim_of (n + 1) b) numbered in
    let pushed : c.push.new.self.items ≡ lines ++ Submit 0 c.claim_of-command.result ∷ [] = c.in_ok-push.ensures.items ∙ ap (λ p. lines ++ Submit p c.claim_of-command.result ∷ []) c.requires in
    let all : c.push.new.self.items ≡ lines ++ Submit 0 (claim_of (owned b.1.owner (take place names) + 1) b) ∷ [] = pushed ∙ ap (λ x. lines ++ Submit 0 x ∷ []) claimed in (
      rw all (claims_next lines (export_of names) names place b c.loop-place-test.true (sym c.index-names-place.is) c.loop-place.invariant.0),
      subst (λ ls. (n : ℕ) → 1 ≤ n → AllByRecursion (IsScriptLine n) ls) (sym pushed) (lawful_more lines c.claim_of-command.result c.command_law.ensures c.loop-place.invariant.1),
    )
