use Rattle.std.proofs.Common.{◌≡◌, ◌++◌, ◌∙◌, List, ℕ, codes, ap, append_assoc}
use Rattle.std.proofs.lemmas.Result.{on_ok_weaker}
use Rattle.rr_folders.specs.Texts.{number_field}
use Rattle.rr_folders.proofs.telling.push_difference.Goals as goal

-- five texts, one behind the other
five : (a b c d e f v w x y z : List ℕ) → v ≡ a ++ b → w ≡ v ++ c → x ≡ w ++ d → y ≡ x ++ e → z ≡ y ++ f → z ≡ a ++ ((((b ++ c) ++ d) ++ e) ++ f)
five a b c d e f v w x y z p q r s t =
    t ∙ ap (λ (l : List ℕ). l ++ f) (s ∙ ap (λ (l : List ℕ). l ++ e) (r ∙ ap (λ (l : List ℕ). l ++ d) (q ∙ ap (λ (l : List ℕ). l ++ c) p))) ∙ simp append_assoc

pub returns : goal.returns
returns c =
    let old = c.args.out.now.items in
    let is : number_field c.args.form (codes "instance") c.from-instance.result ≡ number_field c.args.form (codes "instance") c.args.clash.now.difference.instance =
    ap (λ (i : ℕ). number_field c.args.form (codes "instance") i) (c.from-instance.ensures ∙ c.number.ensures.value) in
    record {
      ok = on_ok_weaker c.push_command_field-2.result
          (λ last. five old _ _ _ _ _ _ _ _ _ _ (c.in_ok-push_number_field.ensures.ok ∙ ap (λ (l : List ℕ). old ++ l) is) c.in_ok-push_number_field-2.ensures.ok c.in_ok-push_command_field.ensures.ok c.in_ok-push_number_field-3.ensures.ok last)
          c.push_command_field-2.ensures.ok;
    }
