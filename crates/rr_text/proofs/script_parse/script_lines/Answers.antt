use Rattle.std.proofs.Common.{◌≡◌, ◌++◌, ◌∷◌, [], sym, ◌∙◌, arith, rules}
use Rattle.rr_text.proofs.ScriptReading.{so_far_uncut, so_far_unread, so_far_more}
use Rattle.rr_text.proofs.script_parse.script_lines.Goals as goal

pub returns-in-None-clause-err : goal.returns-in-None-clause-err
returns-in-None-clause-err c =
    so_far_uncut c.args.nodes c.args.bytes.now c.loop-rest.rest.now c.loop-rest.lines.items _ (omega arith) c.loop-rest.invariant (search rules) (omega arith) c.in-None.ensures

pub returns-in-None-script_line-clause-err : goal.returns-in-None-script_line-clause-err
returns-in-None-script_line-clause-err c =
    so_far_unread c.args.nodes c.args.bytes.now c.loop-rest.rest.now c.in-Some.text.now c.in-Some.after.now c.loop-rest.lines.items _ (omega arith) c.loop-rest.invariant (search rules) (omega arith) c.in-Some.ensures (sym c.in-None-script_line.is ∙ c.script_line.ensures)

pub loop-rest-preserved : goal.loop-rest-preserved
loop-rest-preserved c =
    let e : c.push.new.self.items ≡ c.loop-rest.lines.items ++ c.in-Some-script_line.line ∷ [] = c.in_ok-push-in-Some-script_line.ensures.items in
    rw e (so_far_more c.args.nodes c.args.bytes.now c.loop-rest.rest.now c.in-Some.after.now c.in-Some.text.now c.loop-rest.lines.items c.in-Some-script_line.line (omega arith) c.loop-rest.invariant c.in-Some.ensures (sym c.in-Some-script_line.is ∙ c.script_line.ensures))
