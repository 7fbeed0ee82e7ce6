-- Words whose first line is behind their last write no cut.
use Rattle.std.proofs.Common.{◌≡◌, ◌<◌, ◌-◌, ◌^◌, ◌∙◌, ℕ, Option, None, Some, sym, arith}
use Rattle.clap.specs.Words.{Text}
use Rattle.rr_draw.specs.declared.cut.Cut.{Cut}
use Rattle.rr_words.specs.Tasks.{CutWords}
use Rattle.rr_cli.specs.Cuts.{IsNumberOr, IsCutBy}

-- a word writes one number
number_once : (other least most : ℕ) (word : Option Text) (m n : ℕ) → IsNumberOr other least most word m → IsNumberOr other least most word n → m ≡ n
number_once other least most None m n one two = one ∙ sym two
number_once other least most (Some word) m n one two = sym one.1 ∙ two.1

pub no_cut : (words : CutWords) (from to : ℕ) → IsNumberOr 1 1 4294967295 words.from from → IsNumberOr (2 ^ 64 - 1) 1 4294967295 words.to to → to < from
    → (cut : Cut) → IsCutBy words cut → ⊥
no_cut words from to first last behind cut by =
    let from_is : from ≡ cut.from = number_once 1 1 4294967295 words.from from cut.from first by.from in
    let to_is : to ≡ cut.to = number_once (2 ^ 64 - 1) 1 4294967295 words.to to cut.to last by.to in
    omega (arith, behind, from_is, to_is, by.in_order)
