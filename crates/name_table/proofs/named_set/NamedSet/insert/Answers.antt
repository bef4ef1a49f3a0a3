use Rattle.std.proofs.Common.{◌≡◌, ℕ, List, ap₂, [], ◌∷◌, ◌++◌, ap, sym, ◌∙◌, arith, length, false, true, Some, position}
use Rattle.std.specs.Prelude.{map, cond, not, Option}
use Rattle.std.specs.List.{list_any}
use Rattle.std.specs.Str.{bytes_eq}
use Rattle.std.proofs.lemmas.List.{map-append, length-map}
use Rattle.name_table.proofs.Positions.{last_position, is_there, not_there}
use Rattle.name_table.proofs.named_set.NamedSet.insert.Goals as goal

-- a search through the kept names is one through those that are seen
looked : {K : Type 0} (of : K → List ℕ) (keys kept : List K) (bytes name : List ℕ) (names : List (List ℕ)) (found : Option ℕ)
    → found ≡ position (bytes_eq bytes) (map of kept) → bytes ≡ name → kept ≡ keys → map of keys ≡ names → found ≡ position (bytes_eq name) names
looked of keys kept bytes name names found e f g h =
    e ∙ ap₂ (λ b ks. position (bytes_eq b) (map of ks)) f g ∙ ap (position (bytes_eq name)) h

pub returns-in-Some-clause-new : goal.returns-in-Some-clause-new
returns-in-Some-clause-new g c =
    let of = g.K.Named.name in
    let name = of c.args.key in
    let old = c.args.self.now in
    let keys = c.self.inside.keys.items in
    let found : c.in_ok-found.field-0 ≡ position (bytes_eq name) old =
    looked of keys c.reserve.new.self.items c.bytes-2.result.now name old c.in_ok-found.field-0 c.in_ok-found.ensures.number c.bytes-2.ensures c.reserve.ensures.items c.self.view_is in
    let any : list_any (bytes_eq name) old ≡ true = is_there name old c.in-Some.found (sym found ∙ c.in-Some.is) in
    ap not (sym any)

pub returns-in-Some-clause-names : goal.returns-in-Some-clause-names
returns-in-Some-clause-names g c =
    let of = g.K.Named.name in
    let name = of c.args.key in
    let old = c.args.self.now in
    let keys = c.self.inside.keys.items in
    let found : c.in_ok-found.field-0 ≡ position (bytes_eq name) old =
    looked of keys c.reserve.new.self.items c.bytes-2.result.now name old c.in_ok-found.field-0 c.in_ok-found.ensures.number c.bytes-2.ensures c.reserve.ensures.items c.self.view_is in
    let any : list_any (bytes_eq name) old ≡ true = is_there name old c.in-Some.found (sym found ∙ c.in-Some.is) in
    ap (map of) c.reserve.ensures.items ∙ c.self.view_is ∙ sym (ap (λ b. cond b old (old ++ name ∷ [])) any)

pub returns-in-None-clause-number : goal.returns-in-None-clause-number
returns-in-None-clause-number g c =
    let of = g.K.Named.name in
    let name = of c.args.key in
    let old = c.args.self.now in
    let keys = c.self.inside.keys.items in
    let found : c.in_ok-found.field-0 ≡ position (bytes_eq name) old =
    looked of keys c.reserve.new.self.items c.bytes-2.result.now name old c.in_ok-found.field-0 c.in_ok-found.ensures.number c.bytes-2.ensures c.reserve.ensures.items c.self.view_is in
    let any : list_any (bytes_eq name) old ≡ false = not_there old name (sym found ∙ c.in-None.is) in
    let pushed : c.push_reserved.new.self.items ≡ keys ++ c.args.key ∷ [] = c.push_reserved.ensures.items ∙ ap (λ ks. ks ++ c.args.key ∷ []) c.reserve.ensures.items in
    let seen : map of c.push_reserved.new.self.items ≡ old ++ name ∷ [] = ap (map of) pushed ∙ map-append of keys (c.args.key ∷ []) ∙ ap (λ ns. ns ++ name ∷ []) c.self.view_is in
    let counted : c.len-i.result ≡ length keys = omega arith in
    ap (position (bytes_eq name)) seen ∙ last_position name old any ∙ ap (λ n. Some n) (sym (counted ∙ sym (length-map keys of) ∙ ap length c.self.view_is))

pub returns-in-None-clause-new : goal.returns-in-None-clause-new
returns-in-None-clause-new g c =
    let of = g.K.Named.name in
    let name = of c.args.key in
    let old = c.args.self.now in
    let keys = c.self.inside.keys.items in
    let found : c.in_ok-found.field-0 ≡ position (bytes_eq name) old =
    looked of keys c.reserve.new.self.items c.bytes-2.result.now name old c.in_ok-found.field-0 c.in_ok-found.ensures.number c.bytes-2.ensures c.reserve.ensures.items c.self.view_is in
    let any : list_any (bytes_eq name) old ≡ false = not_there old name (sym found ∙ c.in-None.is) in
    ap not (sym any)

pub returns-in-None-clause-names : goal.returns-in-None-clause-names
returns-in-None-clause-names g c =
    let of = g.K.Named.name in
    let name = of c.args.key in
    let old = c.args.self.now in
    let keys = c.self.inside.keys.items in
    let found : c.in_ok-found.field-0 ≡ position (bytes_eq name) old =
    looked of keys c.reserve.new.self.items c.bytes-2.result.now name old c.in_ok-found.field-0 c.in_ok-found.ensures.number c.bytes-2.ensures c.reserve.ensures.items c.self.view_is in
    let any : list_any (bytes_eq name) old ≡ false = not_there old name (sym found ∙ c.in-None.is) in
    let pushed : c.push_reserved.new.self.items ≡ keys ++ c.args.key ∷ [] = c.push_reserved.ensures.items ∙ ap (λ ks. ks ++ c.args.key ∷ []) c.reserve.ensures.items in
    let seen : map of c.push_reserved.new.self.items ≡ old ++ name ∷ [] = ap (map of) pushed ∙ map-append of keys (c.args.key ∷ []) ∙ ap (λ ns. ns ++ name ∷ []) c.self.view_is in
    seen ∙ sym (ap (λ b. cond b old (old ++ name ∷ [])) any)
