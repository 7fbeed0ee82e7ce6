-- One more guest in a row.
use Rattle.std.proofs.Common.{◌≡◌, ℕ, ◌<◌, List, [], ◌∷◌, ◌++◌, length, get_or, Vec, Global, sym, subst}
use Rattle.std.proofs.Math.ListN.{set}
use Rattle.std.specs.List.{All}
use Rattle.std.proofs.lemmas.List.Elements.{All-append, All-cons, All-nil, All-set}
use Rattle.rr_types.specs.declared.promise.Entry.{Entry}
use Rattle.rr_client.specs.declared.seated.Seated.{Seated}
use Rattle.rr_client.specs.Seating.{HasOwnNumbers}

-- each in the rows has numbers of its own client, with one more that has
pub one_more : {G H : Type 0} (promises : List (List Entry)) (rows : List (Vec (Seated G H) Global)) (i : ℕ) (old new : Vec (Seated G H) Global) (one : Seated G H)
    → All (λ row. All (λ s. HasOwnNumbers promises s.coming) row.items) rows → i < length rows → get_or rows i old ≡ old → new.items ≡ old.items ++ one ∷ []
    → HasOwnNumbers promises one.coming → All (λ row. All (λ s. HasOwnNumbers promises s.coming) row.items) (set rows i new)
one_more {G} {H} promises rows i old new one before within at more own =
    let Owns = λ (s : Seated G H). HasOwnNumbers promises s.coming in
    let OwnAll = λ (row : Vec (Seated G H) Global). All Owns row.items in
    let row : All Owns old.items = subst OwnAll at (before i old within) in
    All-set OwnAll rows i new (subst (λ xs. All Owns xs) (sym more) (All-append Owns old.items (one ∷ []) row (All-cons Owns one [] own (All-nil Owns)))) before

-- where no row has a guest, each guest in them has numbers of its own client
pub none_yet : {G H : Type 0} (promises : List (List Entry)) (rows : List (Vec (Seated G H) Global)) → All (λ row. row.items ≡ []) rows → All (λ row. All (λ s. HasOwnNumbers promises s.coming) row.items) rows
none_yet {G} {H} promises rows empty =
    let Owns = λ (s : Seated G H). HasOwnNumbers promises s.coming in
    λ k row within. subst (λ xs. All Owns xs) (sym (empty k row within)) (All-nil Owns)
