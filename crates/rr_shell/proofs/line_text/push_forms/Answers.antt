use Rattle.std.proofs.Common.{◌∙◌, ◌++◌, List, ℕ, map, ap}
use Rattle.std.proofs.lemmas.Result.{on_ok_weaker}
use Rattle.rr_types.specs.Commands.{listed, op_form, op_kinds}
use Rattle.rr_shell.proofs.TextLemmas.{in_parts}
use Rattle.rr_shell.proofs.line_text.push_forms.Goals as goal

pub returns : goal.returns
returns c =
    let old = c.args.out.now.items in
    record {
      ok = on_ok_weaker c.push_bytes-2.result
          (in_parts old (listed (map op_form op_kinds)) _ c.push_bytes.new.out.items c.push_bytes-2.new.out.items
          (c.in_ok-push_bytes.ensures.ok ∙ ap (λ (l : List ℕ). old ++ l) (c.as_bytes.ensures.value ∙ c.forms.ensures)))
          c.push_bytes-2.ensures.ok;
    }
