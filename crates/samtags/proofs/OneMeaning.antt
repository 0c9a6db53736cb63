-- SAMtags' definition gives a tag at most one meaning: SEQ, ML and the groups determine the calls.
-- Assumes nothing.
use mathlib.Core.Path.{◌≡◌, refl, sym, ap₂, ◌∙◌}
use Prim.Native.Nat.{ℕ, ◌<◌}
use native.Mathlib.Omega.{arith}
use mathlib.Core.List.{List, ◌∷◌}
use lib.ListN.{length, get_or}
use lib.Seq.{ext_get_or}
use Rattle.samtags.specs.Spots.{Call}
use Rattle.samtags.specs.Samtags.{ordinal, no_call, Entries, GroupMeans, TagMeans, no_group, a_group}
use Rattle.samtags.proofs.Names.{names_one}

pub call_ext : (c d : Call) → c.place ≡ d.place → c.values ≡ d.values → c ≡ d
call_ext c d p q = λ i. record { place = p i; values = q i }

group_means_one : (seq ml : List ℕ) (g : Entries) (cs ds : List Call) → GroupMeans seq ml g cs → GroupMeans seq ml g ds → cs ≡ ds
group_means_one seq ml g cs ds m n =
    ext_get_or no_call cs ds (m.as_many_of ∙ sym n.as_many_of) (λ j h.
    let l : j < length g.skips = omega (arith, m.as_many_of) in
    call_ext (get_or cs j no_call) (get_or ds j no_call)
    (names_one g.base seq (ordinal g.skips j) (get_or cs j no_call).place (get_or ds j no_call).place (m.names j l) (n.names j l))
    (m.values j l ∙ sym (n.values j l)))

pub tag_means_one : {seq ml : List ℕ} {gs : List Entries} {css dss : List (List Call)} → TagMeans seq ml gs css → TagMeans seq ml gs dss → css ≡ dss
tag_means_one no_group no_group = refl
tag_means_one {seq} (a_group {ml = ml} {g = g} {calls = cs} m l ms) (a_group {calls = ds} n k ns) =
    ap₂ (λ (x : List Call) (xs : List (List Call)). x ∷ xs) (group_means_one seq ml g cs ds m n) (tag_means_one ms ns)
