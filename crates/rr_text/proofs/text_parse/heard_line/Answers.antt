use Rattle.std.proofs.Common.{◌≡◌, ◌+◌, ◌<◌, ◌++◌, ◌∷◌, Option, Some, None, decimal, refl, sym, ap, ◌∙◌, arith}
use Rattle.std.proofs.lemmas.Option.{some_pair_parts}
use Rattle.rr_text.specs.ScheduleTexts.{HearsNothing}
use Rattle.rr_text.specs.Reading.{cut_at, small_at}
use Rattle.rr_text.proofs.ScheduleReading.{heard_taken, hears_nothing, heard_parts_one, heard_number}
use Rattle.rr_text.proofs.text_parse.heard_line.Goals as goal

pub returns : goal.returns
returns c =
    let valid = c.in_ok-node.ensures.valid in
    let value = c.in_ok-node.ensures.value in
    let less = c.in_ok-checked_sub.ensures in
    let low : c.in_ok-node.node < c.args.nodes = omega (arith, valid.0 refl, value) in
    let digit : c.in_ok-digit.digit ≡ 48 + c.in_ok-node.node = omega (arith, less.0, less.1, value) in
    heard_taken c.args.nodes c.in_ok-node.node c.in_ok-digit.digit c.in_ok-message.message c.args.bytes.now c.in_ok-digit.words.now c.in_ok-word.word.now c.in_ok-word.rest.now (omega arith) low digit c.in_ok-digit.ensures c.in_ok-word.ensures (sym c.in_ok-message.ensures)

pub returns-in_err-digit : goal.returns-in_err-digit
returns-in_err-digit c =
    let nothing : HearsNothing c.args.nodes c.args.bytes.now =
    hears_nothing c.args.nodes c.args.bytes.now (omega arith) (λ p k more lt small is. c.in_err-digit.ensures (48 + p) (decimal k ++ 10 ∷ more) is) in
    rw c.from_residual.ensures nothing

pub returns-in_err-checked_sub : goal.returns-in_err-checked_sub
returns-in_err-checked_sub c =
    let nothing : HearsNothing c.args.nodes c.args.bytes.now = hears_nothing c.args.nodes c.args.bytes.now (omega arith) (λ p k more lt small is.
    let parts = heard_parts_one c.in_ok-digit.digit (48 + p) c.in_ok-digit.words.now (decimal k ++ 10 ∷ more) (sym c.in_ok-digit.ensures ∙ is) in
    absurd (omega (arith, c.in_err-checked_sub.ensures, parts.0))) in
    rw c.from_residual-in_err-checked_sub.ensures nothing

pub returns-in_err-node : goal.returns-in_err-node
returns-in_err-node c =
    let less = c.in_ok-checked_sub.ensures in
    let valid = c.in_err-node.ensures.valid in
    let nothing : HearsNothing c.args.nodes c.args.bytes.now = hears_nothing c.args.nodes c.args.bytes.now (omega arith) (λ p k more lt small is.
    let parts = heard_parts_one c.in_ok-digit.digit (48 + p) c.in_ok-digit.words.now (decimal k ++ 10 ∷ more) (sym c.in_ok-digit.ensures ∙ is) in
    let some = valid.1 (omega (arith, less.0, less.1, parts.0, lt)) in
    absurd cc) in
    rw c.from_residual-in_err-node.ensures nothing

pub returns-in_err-word : goal.returns-in_err-word
returns-in_err-word c =
    let nothing : HearsNothing c.args.nodes c.args.bytes.now = hears_nothing c.args.nodes c.args.bytes.now (omega arith) (λ p k more lt small is.
    let parts = heard_parts_one c.in_ok-digit.digit (48 + p) c.in_ok-digit.words.now (decimal k ++ 10 ∷ more) (sym c.in_ok-digit.ensures ∙ is) in
    let cut = sym c.in_err-word.ensures ∙ ap (cut_at 10) parts.1 ∙ (heard_number k more small).0 in
    absurd cc) in
    rw c.from_residual-in_err-word.ensures nothing

pub returns-in_err-message : goal.returns-in_err-message
returns-in_err-message c =
    let nothing : HearsNothing c.args.nodes c.args.bytes.now = hears_nothing c.args.nodes c.args.bytes.now (omega arith) (λ p k more lt small is.
    let parts = heard_parts_one c.in_ok-digit.digit (48 + p) c.in_ok-digit.words.now (decimal k ++ 10 ∷ more) (sym c.in_ok-digit.ensures ∙ is) in
    let number = heard_number k more small in
    let cut = some_pair_parts (decimal k) c.in_ok-word.word.now more c.in_ok-word.rest.now (sym number.0 ∙ ap (cut_at 10) (sym parts.1) ∙ c.in_ok-word.ensures) in
    let none = c.in_err-message.ensures ∙ ap small_at (sym cut.0) ∙ number.1 in
    absurd cc) in
    rw c.from_residual-in_err-message.ensures nothing
