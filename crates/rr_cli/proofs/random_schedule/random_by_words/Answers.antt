use Rattle.std.proofs.Common.{Bool, refl, subst}
use Rattle.rr_words.specs.declared.tasks.Form.{Form}
use Rattle.rr_cli.specs.Ends.{EndsOnRandom, numbered, unnumbered}
use Rattle.rr_cli.proofs.random_schedule.random_by_words.Goals as goal

pub returns-in-Some-clause-ends : goal.returns-in-Some-clause-ends
returns-in-Some-clause-ends g c =
    let d = c.in-Some.numbers in
    numbered d.seed d.steps d.nodes d.faults c.in-Some.ensures.some
    (subst (λ (form : Form). EndsOnRandom form c.args.words.now.finish c.args.words.now.alone d.faults d.nodes d.seed d.steps c.print_random.result (g.O.Sink.printing c.args.out.now) (g.O.Sink.printing c.print_random.new.out)) c.in-Some.ensures.form
    (subst (λ (finish : Bool). EndsOnRandom d.form finish c.args.words.now.alone d.faults d.nodes d.seed d.steps c.print_random.result (g.O.Sink.printing c.args.out.now) (g.O.Sink.printing c.print_random.new.out)) c.in-Some.ensures.finish
    (subst (λ (alone : Bool). EndsOnRandom d.form d.finish alone d.faults d.nodes d.seed d.steps c.print_random.result (g.O.Sink.printing c.args.out.now) (g.O.Sink.printing c.print_random.new.out)) c.in-Some.ensures.alone c.print_random.ensures.ends)))

pub returns-in-None-clause-ends : goal.returns-in-None-clause-ends
returns-in-None-clause-ends g c = unnumbered (c.numbers_of.ensures.none c.in-None.is) refl refl
