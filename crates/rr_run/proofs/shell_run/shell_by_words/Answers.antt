use Rattle.std.proofs.Common.{◌<◌, ℕ, List, Bor, length, map, refl, subst, sym}
use Rattle.clap.specs.Words.{Text}
use Rattle.rr_stream.specs.Streams.{Reading}
use Rattle.rr_run.specs.Shells.{EndsOnLines, EndsOnShell, numbered, unleft}
use Rattle.rr_run.specs.Telling.{TellsNew}
use Rattle.rr_run.proofs.ShellLemmas.{by_input, by_lines}
use Rattle.rr_run.proofs.shell_run.shell_by_words.Goals as goal

pub returns-in-empty-clause-ends : goal.returns-in-empty-clause-ends
returns-in-empty-clause-ends g c =
    let words = c.args.words.now in
    let none : length words.lines.items < 1 = subst (λ (l : List (Bor Text)). length l < 1) c.as_slice-lines.ensures.value c.in-empty.len_below in
    numbered c.in-Some.nodes c.in-Some-client_of.client c.in-Some-left_out_by.without c.first_left.result c.in-Some.ensures.some c.in-Some-client_of.ensures.some (sym c.in-Some-left_out_by.ensures) c.first_left.ensures
    (by_input words.json words.strict c.in-Some.nodes c.first_left.result words.lines.items (g.I.Source.reading c.args.input.now) (g.I.Source.reading c.shell_over.new.input) c.shell_over.result (g.O.Sink.printing c.args.out.now) (g.O.Sink.printing c.shell_over.new.out) none
    (subst (λ (r : Reading). EndsOnShell words.json words.strict c.in-Some.nodes c.first_left.result r (g.I.Source.reading c.shell_over.new.input) c.shell_over.result (g.O.Sink.printing c.args.out.now) (g.O.Sink.printing c.shell_over.new.out)) c.show_begin.ensures c.shell_over.ensures.ends))

pub returns-in-len1-up-clause-ends : goal.returns-in-len1-up-clause-ends
returns-in-len1-up-clause-ends g c =
    let words = c.args.words.now in
    let some : 0 < length words.lines.items = subst (λ (l : List (Bor Text)). 0 < length l) c.as_slice-lines.ensures.value c.in-len1-up.len_at_least in
    numbered c.in-Some.nodes c.in-Some-client_of.client c.in-Some-left_out_by.without c.first_left.result c.in-Some.ensures.some c.in-Some-client_of.ensures.some (sym c.in-Some-left_out_by.ensures) c.first_left.ensures
    (by_lines words.json words.strict c.in-Some.nodes c.first_left.result words.lines.items (g.I.Source.reading c.args.input.now) c.shell_by_lines.result (g.O.Sink.printing c.args.out.now) (g.O.Sink.printing c.shell_by_lines.new.out) some
    (subst (λ (l : List (Bor Text)). EndsOnLines words.json words.strict c.in-Some.nodes c.first_left.result (map (λ s. s.now) l) c.shell_by_lines.result (g.O.Sink.printing c.args.out.now) (g.O.Sink.printing c.shell_by_lines.new.out)) c.as_slice-lines.ensures.value c.shell_by_lines.ensures.ends))

pub returns-in_default-left_out_by-clause-ends : goal.returns-in_default-left_out_by-clause-ends
returns-in_default-left_out_by-clause-ends g c =
    unleft c.in-Some.nodes c.in-Some-client_of.client c.in-Some.ensures.some c.in-Some-client_of.ensures.some (sym c.in_default-left_out_by.ensures) c.end_without_list.ensures refl refl

pub returns-in-empty-clause-quiet : goal.returns-in-empty-clause-quiet
returns-in-empty-clause-quiet g c = λ ended. (
  c.in-Some.nodes,
  c.in-Some-left_out_by.without,
  c.in-Some.ensures.some,
  sym c.in-Some-left_out_by.ensures,
  subst (λ (d : List ℕ). TellsNew d c.in-Some.nodes c.in-Some-left_out_by.without (g.E.Write.contents c.args.err.now) (g.E.Write.contents c.shell_over.new.err)) c.folder_of-dir.ensures (c.shell_over.ensures.quiet ended),
)

pub returns-in-len1-up-clause-quiet : goal.returns-in-len1-up-clause-quiet
returns-in-len1-up-clause-quiet g c = λ ended. (
  c.in-Some.nodes,
  c.in-Some-left_out_by.without,
  c.in-Some.ensures.some,
  sym c.in-Some-left_out_by.ensures,
  subst (λ (d : List ℕ). TellsNew d c.in-Some.nodes c.in-Some-left_out_by.without (g.E.Write.contents c.args.err.now) (g.E.Write.contents c.shell_by_lines.new.err)) c.folder_of-dir.ensures (c.shell_by_lines.ensures.quiet ended),
)
