use Rattle.rr_shell.specs.Talks.{submitted, again, looked, synced, listed, watches, is_down, moved, stopped, started, unstarted, written, unwritten, stated, helped}
use Rattle.rr_shell.proofs.saying.said_to_request.Goals as goal

pub returns-then-asks_in_vain : goal.returns-then-asks_in_vain
returns-then-asks_in_vain g c = rw (c.in_ok-troubled.ensures.0, c.in_ok-troubled.ensures.1, c.in_ok-troubled.ensures.2, c.in_ok-troubled.ensures.3) (is_down c.args.line.now (c.asks_in_vain.ensures.asks c.if-asks_in_vain.true) (c.asks_in_vain.ensures.off c.if-asks_in_vain.true))

pub returns-in_ok-submitted-in-Submit : goal.returns-in_ok-submitted-in-Submit
returns-in_ok-submitted-in-Submit g c = rw (c.in-Submit.is, c.in_ok-submitted-in-Submit.ensures.0, c.in_ok-submitted-in-Submit.ensures.1, c.in_ok-submitted-in-Submit.ensures.2, c.in_ok-submitted-in-Submit.ensures.3) (submitted c.in-Submit.op c.in_ok-submit-in-Submit.field-0 c.in_ok-submit-in-Submit.ensures.outcome c.in_ok-submit-in-Submit.ensures.submitted)

pub returns-in_ok-submitted-in-Again : goal.returns-in_ok-submitted-in-Again
returns-in_ok-submitted-in-Again g c = rw (c.in-Again.is, c.in_ok-submitted-in-Again.ensures.0, c.in_ok-submitted-in-Again.ensures.1, c.in_ok-submitted-in-Again.ensures.2, c.in_ok-submitted-in-Again.ensures.3) (again c.in_ok-again-in-Again.field-0 c.in_ok-again-in-Again.ensures.outcome c.in_ok-again-in-Again.ensures.submitted)

pub returns-in_ok-answered-in-Look : goal.returns-in_ok-answered-in-Look
returns-in_ok-answered-in-Look g c = rw (c.in-Look.is, c.in_ok-answered-in-Look.ensures.0, c.in_ok-answered-in-Look.ensures.1, c.in_ok-answered-in-Look.ensures.2, c.in_ok-answered-in-Look.ensures.3) (looked c.in-Look.name c.in_ok-look-in-Look.field-0 c.in_ok-look-in-Look.ensures.sight c.in_ok-look-in-Look.ensures.looked)

pub returns-in_ok-synced-in-Sync : goal.returns-in_ok-synced-in-Sync
returns-in_ok-synced-in-Sync g c =
    let (o, may, did, at, node, text, trouble, watched) = c.in_ok-synced-in-Sync.ensures in
    rw (c.in-Sync.is, node, text, trouble, watched) (synced o at did)

pub returns-in_ok-listed-in-Names : goal.returns-in_ok-listed-in-Names
returns-in_ok-listed-in-Names g c = rw (c.in-Names.is, c.in_ok-listed-in-Names.ensures.0, c.in_ok-listed-in-Names.ensures.1, c.in_ok-listed-in-Names.ensures.2, c.in_ok-listed-in-Names.ensures.3) (listed c.in-Names.prefix c.in_ok-list-in-Names.field-0 c.in_ok-list-in-Names.ensures.listing c.in_ok-list-in-Names.ensures.listed)

pub returns-in_ok-moved-in-At : goal.returns-in_ok-moved-in-At
returns-in_ok-moved-in-At g c = rw (c.in-At.is, c.in_ok-moved-in-At.ensures.0, c.in_ok-moved-in-At.ensures.1, c.in_ok-moved-in-At.ensures.2, c.in_ok-moved-in-At.ensures.3) (moved c.in-At.next)

pub returns-in_ok-stopped-in-Stop : goal.returns-in_ok-stopped-in-Stop
returns-in_ok-stopped-in-Stop g c = rw (c.in-Stop.is, c.in_ok-stopped-in-Stop.ensures.0, c.in_ok-stopped-in-Stop.ensures.1, c.in_ok-stopped-in-Stop.ensures.2, c.in_ok-stopped-in-Stop.ensures.3) (stopped c.in-Stop.next c.in_ok-stop-in-Stop.ensures)

pub returns-in_ok-started-in-Start : goal.returns-in_ok-started-in-Start
returns-in_ok-started-in-Start g c = rw (c.in-Start.is, c.in_ok-started-in-Start.ensures.0, c.in_ok-started-in-Start.ensures.1, c.in_ok-started-in-Start.ensures.2, c.in_ok-started-in-Start.ensures.3) (started c.in-Start.next (rw c.if-branch.true at c.in_ok-start-in-Start.ensures))

pub returns-in_ok-troubled-in-Start : goal.returns-in_ok-troubled-in-Start
returns-in_ok-troubled-in-Start g c = rw (c.in-Start.is, c.in_ok-troubled-in-Start.ensures.0, c.in_ok-troubled-in-Start.ensures.1, c.in_ok-troubled-in-Start.ensures.2, c.in_ok-troubled-in-Start.ensures.3) (unstarted c.in-Start.next (rw c.if-branch.false at c.in_ok-start-in-Start.ensures))

pub returns-in_ok-written-in-Snapshot : goal.returns-in_ok-written-in-Snapshot
returns-in_ok-written-in-Snapshot g c = rw (c.in-Snapshot.is, c.in_ok-written-in-Snapshot.ensures.0, c.in_ok-written-in-Snapshot.ensures.1, c.in_ok-written-in-Snapshot.ensures.2, c.in_ok-written-in-Snapshot.ensures.3) (written c.in-Snapshot.next (rw c.if-branch-2.true at c.in_ok-snapshot-in-Snapshot.ensures))

pub returns-in_ok-troubled-in-Snapshot : goal.returns-in_ok-troubled-in-Snapshot
returns-in_ok-troubled-in-Snapshot g c = rw (c.in-Snapshot.is, c.in_ok-troubled-in-Snapshot.ensures.0, c.in_ok-troubled-in-Snapshot.ensures.1, c.in_ok-troubled-in-Snapshot.ensures.2, c.in_ok-troubled-in-Snapshot.ensures.3) (unwritten c.in-Snapshot.next (rw c.if-branch-2.false at c.in_ok-snapshot-in-Snapshot.ensures))

pub returns-in_ok-stated-in-Status : goal.returns-in_ok-stated-in-Status
returns-in_ok-stated-in-Status g c = rw (c.in-Status.is, c.in_ok-stated-in-Status.ensures.0, c.in_ok-stated-in-Status.ensures.2, c.in_ok-stated-in-Status.ensures.3) (stated c.in_ok-stated-in-Status.field-0.text.items c.in_ok-stated-in-Status.ensures.1)

pub returns-in_ok-helped-in-Help : goal.returns-in_ok-helped-in-Help
returns-in_ok-helped-in-Help g c = rw (c.in-Help.is, c.in_ok-helped-in-Help.ensures.0, c.in_ok-helped-in-Help.ensures.1, c.in_ok-helped-in-Help.ensures.2, c.in_ok-helped-in-Help.ensures.3) (helped c.in-Help.word)

pub returns-in-Watch : goal.returns-in-Watch
returns-in-Watch g c = rw (c.in-Watch.is, c.new.ensures.items) (watches c.in-Watch.prefix)
