use Rattle.std.proofs.Common.{◌≡◌, ◌∙◌, ◌-◌, ◌+◌, ◌≤◌, suc, Bool, true, false, refl, sym, subst, cond, arith}
use mir.Val.{bool_byte}
use Rattle.rr_turn.specs.Wants.{AsksFrom}
use Rattle.rr_turn.proofs.submitting.ask_all.Goals as goal

as_one : (b : Bool) → bool_byte b ≡ cond b 1 0
as_one true = refl
as_one false = refl

at_most_one : (b : Bool) → cond b 1 0 ≤ 1
at_most_one true = omega arith
at_most_one false = omega arith

pub loop-place-init : goal.loop-place-init
loop-place-init g c =
    let gives = g.L.Links.gives in
    let clients = c.clients-clients.result in
    let links = c.clients-clients.new.self in
    let all : clients - 0 ≡ clients = omega arith in (
      omega arith,
      omega arith,
      λ end later rest. (let same : later ≡ 0 + later = omega arith in subst (λ k. AsksFrom gives clients 0 k links end) same (subst (λ n. AsksFrom gives n 0 later links end) all rest)),
    )

pub loop-place-preserved : goal.loop-place-preserved
loop-place-preserved g c =
    let gives = g.L.Links.gives in
    let l = c.loop-place in
    let clients = c.clients-clients.result in
    let has = c.ask_at.result in
    let asked : c.from-count.result ≡ cond has 1 0 = c.from-count.ensures ∙ as_one has in
    let room : clients - l.place ≡ suc (clients - (l.place + 1)) = omega (arith, c.loop-place-test.true) in (
      (let few = at_most_one has in omega arith),
      omega arith,
      λ end later rest. (
          let same : l.count + (cond has 1 0 + later) ≡ (l.count + c.from-count.result) + later = omega arith in
          subst (λ k. AsksFrom gives clients 0 k c.clients-clients.new.self end) same
          (l.invariant.2 end (cond has 1 0 + later) (subst (λ n. AsksFrom gives n l.place (cond has 1 0 + later) l.links end) (sym room)
          (has, c.ask_at.new.links, later, c.ask_at.ensures, rest, refl)))),
    )

pub returns : goal.returns
returns g c =
    let gives = g.L.Links.gives in
    let l = c.loop-place in
    let clients = c.clients-clients.result in
    let none : clients - l.place ≡ 0 = omega (arith, c.loop-place-test.false) in
    let same : l.count + 0 ≡ l.count = omega arith in (
      clients,
      c.clients-clients.new.self,
      c.clients-clients.ensures,
      subst (λ k. AsksFrom gives clients 0 k c.clients-clients.new.self l.links) same
          (l.invariant.2 l.links 0 (subst (λ n. AsksFrom gives n l.place 0 l.links l.links) (sym none) (refl, refl))),
    )
