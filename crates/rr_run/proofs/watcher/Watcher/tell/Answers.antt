use Rattle.std.proofs.Common.{sym}
use Rattle.rtrb.specs.Ring.{sent}
use Rattle.rr_window.specs.Watches.{IsWatched}
use Rattle.rr_shell.specs.Watches.{bytes_of}
use Rattle.rr_run.proofs.NewsLemmas.{news_on, piece_on, reaches_on}
use Rattle.rr_run.proofs.watcher.Watcher.tell.Goals as goal

pub push-requires : goal.push-requires
push-requires g c =
    let seen : IsWatched (bytes_of c.args.self.prefix) c.args.self.reached c.changes.new.watch c.in-Ok-Some.changes.items =
    rw (c.in-Ok-Some.ensures.reached, sym c.bytes_of.ensures) (rw c.in-Ok-Some.field-0-is at c.in-Ok-Some.ensures.told) in
    rw c.is_full.ensures.looked.1
    (piece_on (bytes_of c.args.self.prefix) c.args.self.begun c.args.self.reached c.changes.new.watch _ c.in-Ok-Some.changes.items c.args.self.reaches c.args.self.tells seen)

pub invariant_of-result : goal.invariant_of-result
invariant_of-result g c =
    let seen : IsWatched (bytes_of c.args.self.prefix) c.args.self.reached c.changes.new.watch c.in-Ok-Some.changes.items =
    rw (c.in-Ok-Some.ensures.reached, sym c.bytes_of.ensures) (rw c.in-Ok-Some.field-0-is at c.in-Ok-Some.ensures.told) in
    record {
      reaches = reaches_on (bytes_of c.args.self.prefix) c.args.self.begun c.args.self.reached c.changes.new.watch c.in-Ok-Some.changes.items c.args.self.reaches seen;
      tells = news_on (bytes_of c.args.self.prefix) c.args.self.begun c.args.self.reached c.changes.new.watch (sent c.args.self.news) (sent c.is_full.new.self) (sent c.push.new.self)
          (record { prefix = c.args.self.prefix; changes = c.in-Ok-Some.changes }) c.is_full.ensures.looked.1 c.in-Ok.ensures.ok.0 c.args.self.reaches c.args.self.tells seen;
    }
