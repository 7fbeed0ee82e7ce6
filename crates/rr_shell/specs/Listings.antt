-- What a node tells of the bound names.
use Rattle.std.specs.Prelude.{ℕ, Bool, true, ◌&&◌, ◌==◌, List, [], ◌∷◌, length, take, Option, None, Some}
use Rattle.std.specs.List.{list_all}
use Rattle.std.specs.Str.{bytes_eq}
use Rattle.std.specs.Ordering.{nat_cmp, is_lt}
use Rattle.std.specs.Cmp.Lexicographic.{slice_cmp}
use Rattle.rr_types.specs.declared.binding.Binding.{Binding}
use Rattle.rr_shell.specs.declared.listing.Listing.{Listing}

-- whether a name begins with a prefix, where there is one
abbrev pub begins_with : Option (List ℕ) → List ℕ → Bool
begins_with None name = true
begins_with (Some prefix) name = bytes_eq prefix (take (length prefix) name)

-- whether all of these names do
abbrev pub begin_with : Option (List ℕ) → List Binding → Bool
begin_with prefix names = list_all (λ b. begins_with prefix b.name) names

-- whether each of these names comes behind the one before it, the first behind this one
abbrev pub ascend_from : List ℕ → List Binding → Bool
ascend_from last [] = true
ascend_from last (b ∷ bs) = is_lt (slice_cmp nat_cmp last b.name) && ascend_from b.name bs

-- whether each of these names comes behind the one before it
abbrev pub ascend : List Binding → Bool
ascend [] = true
ascend (b ∷ bs) = ascend_from b.name bs

-- whether these are names with this prefix in byte order, or no names were seen
abbrev pub is_list_of : Option (List ℕ) → Option (List Binding) → Bool
is_list_of prefix None = true
is_list_of prefix (Some names) = begin_with prefix names && ascend names

-- whether a listing is node p's of the names with this prefix
abbrev pub is_listing_at : ℕ → Option (List ℕ) → Listing → Bool
is_listing_at p prefix listing = (listing.node == p) && is_list_of prefix listing.names
