use Rattle.std.proofs.Common.{◌≡◌, ℕ, true, false, List, codes, option_map, Option, refl}
use Rattle.std.specs.Str.{bytes_eq}
use Rattle.clap.specs.Words.{Text}
use Rattle.rr_stream.specs.Streams.{Printing}
use Rattle.rr_stream.specs.Files.{Readable, file_at}
use Rattle.rr_cli.specs.Ends.{EndsOnInput}
use Rattle.rr_run.specs.Runs.{EndsOnNamed, EndsOnScript}
use Rattle.rr_run.specs.Telling.{TellsOfInput, TellsOfNamed}
use Rattle.rr_run.proofs.script_run.run_named.Goals as goal

-- a hyphen names the input
named_input : (word : Text) (On : List ℕ → ℕ → Printing → Printing → Type 0) (from to : Readable) (status : ℕ) (old new : Printing) → bytes_eq word (codes "-") ≡ true → EndsOnInput On from.input to.input status old new → EndsOnNamed word On from to status old new
named_input word On from to status old new is ends = rw is ends

-- another word names a file, and the input is left alone
named_file : (word : Text) (On : List ℕ → ℕ → Printing → Printing → Type 0) (from to : Readable) (status : ℕ) (old new : Printing) → bytes_eq word (codes "-") ≡ false → to.input ≡ from.input → EndsOnInput On (file_at from.files word) (file_at to.files word) status old new → EndsOnNamed word On from to status old new
named_file word On from to status old new is same ends = rw is (same, ends)

pub returns-then-eq-clause-ends : goal.returns-then-eq-clause-ends
returns-then-eq-clause-ends g c =
    let is : bytes_eq c.args.path.now (codes "-") ≡ true = cc in
    named_input c.args.path.now (EndsOnScript c.args.manner.form c.args.nodes (option_map (λ s. s.now) c.args.tape))
    (record { input = g.I.Source.reading c.args.input.now; files = g.L.FileReader.held c.args.files.now }) (record { input = g.I.Source.reading c.run_input.new.input; files = g.L.FileReader.held c.args.files.now })
    c.run_input.result (g.O.Sink.printing c.args.out.now) (g.O.Sink.printing c.run_input.new.out) is c.run_input.ensures.ends

pub returns-else-eq-clause-ends : goal.returns-else-eq-clause-ends
returns-else-eq-clause-ends g c =
    let is : bytes_eq c.args.path.now (codes "-") ≡ false = cc in
    named_file c.args.path.now (EndsOnScript c.args.manner.form c.args.nodes (option_map (λ s. s.now) c.args.tape))
    (record { input = g.I.Source.reading c.args.input.now; files = g.L.FileReader.held c.args.files.now }) (record { input = g.I.Source.reading c.args.input.now; files = g.L.FileReader.held c.run_file.new.files })
    c.run_file.result (g.O.Sink.printing c.args.out.now) (g.O.Sink.printing c.run_file.new.out) is refl c.run_file.ensures.ends

-- what is told of the script in the input, and of one in a file
told_input : (word : Text) (from : Readable) (old new : Option (List ℕ)) → bytes_eq word (codes "-") ≡ true → TellsOfInput from.input old new → TellsOfNamed word from old new
told_input word from old new is tells = rw is tells

told_file : (word : Text) (from : Readable) (old new : Option (List ℕ)) → bytes_eq word (codes "-") ≡ false → TellsOfInput (file_at from.files word) old new → TellsOfNamed word from old new
told_file word from old new is tells = rw is tells

pub returns-then-eq-clause-quiet : goal.returns-then-eq-clause-quiet
returns-then-eq-clause-quiet g c =
    let is : bytes_eq c.args.path.now (codes "-") ≡ true = cc in
    λ ended.
    told_input c.args.path.now (record { input = g.I.Source.reading c.args.input.now; files = g.L.FileReader.held c.args.files.now }) (g.E.Write.contents c.args.err.now) (g.E.Write.contents c.run_input.new.err) is (c.run_input.ensures.quiet ended)

pub returns-else-eq-clause-quiet : goal.returns-else-eq-clause-quiet
returns-else-eq-clause-quiet g c =
    let is : bytes_eq c.args.path.now (codes "-") ≡ false = cc in
    λ ended.
    told_file c.args.path.now (record { input = g.I.Source.reading c.args.input.now; files = g.L.FileReader.held c.args.files.now }) (g.E.Write.contents c.args.err.now) (g.E.Write.contents c.run_file.new.err) is (c.run_file.ensures.quiet ended)
