-- What standard error gets in parts.
use Rattle.std.proofs.Common.{◌≡◌, ◌∙◌, true, false, Bool, List, [], ℕ, Option, ap₂, subst, sym, refl}
use Rattle.std.proofs.KnownBytes.{Appends-kept, Appends-nil, Keeps-trans}
use Rattle.std.specs.Io.KnownBytes.{Keeps}
use Rattle.rr_text.specs.declared.script_line.ScriptLine.{ScriptLine}
use Rattle.rr_threads.specs.declared.reused.Reused.{Reused}
use Rattle.rr_threads.specs.Reusing.{are_reused}
use Rattle.clap.specs.Words.{Text}
use Rattle.rr_folders.specs.declared.judging.Verdict.{Verdict}
use Rattle.rr_folders.specs.Judged.{IsJudged}
use Rattle.rr_folders.specs.Surveys.{begins_by}
use Rattle.rr_run.specs.Fronts.{GrowsByFront}
use Rattle.rr_run.specs.Telling.{TellsReused, TellsNew, new_line, goes_on, begins}

-- what is told of a script, and nothing behind it
pub told_kept : (lines : List ScriptLine) (a b c : Option (List ℕ)) → TellsReused lines a b → Keeps b c → TellsReused lines a c
told_kept lines a b c (told, are, (front, rest, split, appends)) kept = (told, are, (front, rest, split, Appends-kept a b c front appends kept))

-- the same, by the lines and the numbers that a call was given
pub told_so : (lines ls : List ScriptLine) (reused rs : List Reused) (a b c : Option (List ℕ)) → ls ≡ lines → rs ≡ reused → are_reused lines reused ≡ true → (are_reused ls rs ≡ true → TellsReused ls a b) → Keeps b c → TellsReused lines a c
told_so lines ls reused rs a b c same_lines same_reused are tells kept =
    told_kept lines a b c (subst (λ (l : List ScriptLine). TellsReused l a b) same_lines (tells (ap₂ are_reused same_lines same_reused ∙ are))) kept

-- what was told of the beginning, and nothing behind it
pub new_so : (dir : Text) (n left : ℕ) (verdict : Verdict) (starts : Bool) (a b c : Option (List ℕ)) → IsJudged n left verdict → starts ≡ begins_by verdict → (starts ≡ false → Keeps a b) → (starts ≡ true → GrowsByFront a b (new_line dir n)) → Keeps b c → TellsNew dir n left a c
new_so dir n left verdict false a b c judged is same tells kept = goes_on verdict judged (sym is) (Keeps-trans a b c (same refl) kept)
new_so dir n left verdict true a b c judged is same tells kept =
    let (front, rest, split, appends) = tells refl in
    begins verdict judged (sym is) (front, rest, split, Appends-kept a b c front appends kept)

-- nothing of a text is a front of it
pub nothing_yet : (a : Option (List ℕ)) (text : List ℕ) → GrowsByFront a a text
nothing_yet a text = ([], text, refl, Appends-nil a)
