use Rattle.std.proofs.Common.{◌≡◌, ◌∙◌, [], Ok, Err, ap, sym, arith}
use Rattle.std.proofs.lemmas.List.{nil_from_length}
use Rattle.std.proofs.lemmas.Result.{IfOk-weaker}
use Rattle.std.specs.Io.BufRead.{strip_last}
use Rattle.rr_shell.specs.Lines.{tidied, shell_line_at}
use Rattle.rr_shell.specs.Talks.{empty, faulty, line_of, too_long}
use Rattle.rr_shell.proofs.TalkLemmas.{said_to_line}
use Rattle.rr_shell.proofs.talking.said_to.Goals as goal

pub returns-in-TooLong : goal.returns-in-TooLong
returns-in-TooLong g c = rw (c.in-TooLong.is, c.in_ok-faulted-in-TooLong.ensures.0, c.in_ok-faulted-in-TooLong.ensures.1, c.in_ok-faulted-in-TooLong.ensures.2, c.in_ok-faulted-in-TooLong.ensures.3) too_long

pub returns-in-Ok : goal.returns-in-Ok
returns-in-Ok g c =
    let read : shell_line_at c.args.nodes (line_of c.in-Line.line) ≡ Ok c.in-Ok.line = sym (c.in-Ok.ensures ∙ ap (shell_line_at c.args.nodes) (c.as_slice-words.ensures.value ∙ c.in_ok-words.ensures ∙ ap tidied (c.without_return-line.ensures ∙ ap (strip_last 13) c.as_slice.ensures.value))) in
    rw c.in-Line.is (IfOk-weaker c.said_to_request.result _ _ (λ said is. said_to_line g.A.Asked.did c.args.json c.args.nodes c.args.node c.in-Line.line c.in-Ok.line said read is) c.said_to_request.ensures)

pub returns : goal.returns
returns g c =
    let read : shell_line_at c.args.nodes (line_of c.in-Line.line) ≡ Err c.in-Err.fault = sym (c.in-Err.ensures ∙ ap (shell_line_at c.args.nodes) (c.as_slice-words.ensures.value ∙ c.in_ok-words.ensures ∙ ap tidied (c.without_return-line.ensures ∙ ap (strip_last 13) c.as_slice.ensures.value))) in
    rw (c.in-Line.is, c.in_ok-faulted-in-Err.ensures.0, c.in_ok-faulted-in-Err.ensures.1, c.in_ok-faulted-in-Err.ensures.2, c.in_ok-faulted-in-Err.ensures.3) (faulty c.in-Line.line c.in-Err.fault read)

pub returns-in-empty : goal.returns-in-empty
returns-in-empty g c =
    let none : line_of c.in-Line.line ≡ [] = sym (c.as_slice-words.ensures.value ∙ c.in_ok-words.ensures ∙ ap tidied (c.without_return-line.ensures ∙ ap (strip_last 13) c.as_slice.ensures.value)) ∙ nil_from_length c.as_slice-words.result.now (omega (arith, c.in-empty.len_below)) in
    rw (c.in-Line.is, c.new.ensures.items) (empty c.in-Line.line none)
