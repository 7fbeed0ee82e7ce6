use Rattle.std.proofs.lemmas.Result.{IfOk-weaker}
use Rattle.rr_cli.proofs.PageLaws.{of_equal}
use Rattle.rr_cli.proofs.page.page_of.Goals as goal

pub returns-clause-ok : goal.returns-clause-ok
returns-clause-ok g c =
    IfOk-weaker c.page_with.result _ _
    (λ text both. record {
      account = c.in_ok-account.account;
      objects = c.in_ok-objects.objects.items;
      picture = c.in_ok-picture.picture.items;
      on_the_run = c.in_ok-account.ensures.ok;
      explained = c.in_ok-objects.ensures.ok;
      pictured = c.in_ok-picture.ensures.ok;
      has_both = of_equal c.as_slice.result.now c.as_slice-2.result.now c.in_ok-objects.objects.items c.in_ok-picture.picture.items text.items
          c.as_slice.ensures.value c.as_slice-2.ensures.value both;
    })
    c.page_with.ensures.ok
