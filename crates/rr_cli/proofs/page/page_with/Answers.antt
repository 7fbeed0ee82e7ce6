use Rattle.rr_cli.proofs.PageLaws.{grew}
use Rattle.rr_cli.proofs.page.page_with.Goals as goal

pub returns-clause-ok : goal.returns-clause-ok
returns-clause-ok c =
    grew c.args.objects.now c.args.picture.now _ _ _ c.new-page.result.items c.push_bytes.new.out.items c.push_script_data.new.out.items c.push_bytes-2.new.out.items
    c.push_bytes-3.new.out.items c.push_bytes-4.new.out.items c.new-page.ensures.items c.in_ok-push_bytes.ensures.ok c.in_ok-push_script_data.ensures.ok
    c.in_ok-push_bytes-2.ensures.ok c.in_ok-push_bytes-3.ensures.ok c.in_ok-push_bytes-4.ensures.ok
