use Rattle.std.proofs.Common.{sym, subst}
use Rattle.rr_words.specs.Tasks.{view_in}
use Rattle.rr_words.specs.declared.tasks.View.{View}
use Rattle.rr_cli.specs.Views.{EndsOnView}
use Rattle.rr_cli.proofs.views.show_view.Goals as goal

pub returns-in-Report-clause-ends : goal.returns-in-Report-clause-ends
returns-in-Report-clause-ends g c =
    subst (λ (view : View). EndsOnView (view_in view) (record { input = g.I.Source.reading c.args.input.now; files = g.F.FileReader.held c.args.files.now }) (record { input = g.I.Source.reading c.show_file.new.input; files = g.F.FileReader.held c.show_file.new.files }) c.show_file.result (g.O.Sink.printing c.args.out.now) (g.O.Sink.printing c.show_file.new.out))
    (sym c.in-Report.is) c.show_file.ensures.ends

pub returns-in-Explanation-clause-ends : goal.returns-in-Explanation-clause-ends
returns-in-Explanation-clause-ends g c =
    subst (λ (view : View). EndsOnView (view_in view) (record { input = g.I.Source.reading c.args.input.now; files = g.F.FileReader.held c.args.files.now }) (record { input = g.I.Source.reading c.show_file-in-Explanation.new.input; files = g.F.FileReader.held c.show_file-in-Explanation.new.files }) c.show_file-in-Explanation.result (g.O.Sink.printing c.args.out.now) (g.O.Sink.printing c.show_file-in-Explanation.new.out))
    (sym c.in-Explanation.is) c.show_file-in-Explanation.ensures.ends

pub returns-in-Finish-clause-ends : goal.returns-in-Finish-clause-ends
returns-in-Finish-clause-ends g c =
    subst (λ (view : View). EndsOnView (view_in view) (record { input = g.I.Source.reading c.args.input.now; files = g.F.FileReader.held c.args.files.now }) (record { input = g.I.Source.reading c.finish_file.new.input; files = g.F.FileReader.held c.finish_file.new.files }) c.finish_file.result (g.O.Sink.printing c.args.out.now) (g.O.Sink.printing c.finish_file.new.out))
    (sym c.in-Finish.is) c.finish_file.ensures.ends

pub returns-in-Statistics-clause-ends : goal.returns-in-Statistics-clause-ends
returns-in-Statistics-clause-ends g c =
    subst (λ (view : View). EndsOnView (view_in view) (record { input = g.I.Source.reading c.args.input.now; files = g.F.FileReader.held c.args.files.now }) (record { input = g.I.Source.reading c.show_file-in-Statistics.new.input; files = g.F.FileReader.held c.show_file-in-Statistics.new.files }) c.show_file-in-Statistics.result (g.O.Sink.printing c.args.out.now) (g.O.Sink.printing c.show_file-in-Statistics.new.out))
    (sym c.in-Statistics.is) c.show_file-in-Statistics.ensures.ends

pub returns-in-TapeExplanation-clause-ends : goal.returns-in-TapeExplanation-clause-ends
returns-in-TapeExplanation-clause-ends g c =
    subst (λ (view : View). EndsOnView (view_in view) (record { input = g.I.Source.reading c.args.input.now; files = g.F.FileReader.held c.args.files.now }) (record { input = g.I.Source.reading c.show_file-in-TapeExplanation.new.input; files = g.F.FileReader.held c.show_file-in-TapeExplanation.new.files }) c.show_file-in-TapeExplanation.result (g.O.Sink.printing c.args.out.now) (g.O.Sink.printing c.show_file-in-TapeExplanation.new.out))
    (sym c.in-TapeExplanation.is) c.show_file-in-TapeExplanation.ensures.ends

pub returns-in-TapeStatistics-clause-ends : goal.returns-in-TapeStatistics-clause-ends
returns-in-TapeStatistics-clause-ends g c =
    subst (λ (view : View). EndsOnView (view_in view) (record { input = g.I.Source.reading c.args.input.now; files = g.F.FileReader.held c.args.files.now }) (record { input = g.I.Source.reading c.show_file-in-TapeStatistics.new.input; files = g.F.FileReader.held c.show_file-in-TapeStatistics.new.files }) c.show_file-in-TapeStatistics.result (g.O.Sink.printing c.args.out.now) (g.O.Sink.printing c.show_file-in-TapeStatistics.new.out))
    (sym c.in-TapeStatistics.is) c.show_file-in-TapeStatistics.ensures.ends

pub returns-in-Comparison-clause-ends : goal.returns-in-Comparison-clause-ends
returns-in-Comparison-clause-ends g c =
    subst (λ (view : View). EndsOnView (view_in view) (record { input = g.I.Source.reading c.args.input.now; files = g.F.FileReader.held c.args.files.now }) (record { input = g.I.Source.reading c.compare_files.new.input; files = g.F.FileReader.held c.compare_files.new.files }) c.compare_files.result (g.O.Sink.printing c.args.out.now) (g.O.Sink.printing c.compare_files.new.out))
    (sym c.in-Comparison.is) c.compare_files.ensures.ends
