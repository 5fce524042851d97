-- Values that fill an input, read one after another.
use Rattle.std.proofs.Common.{◌≡◌, ℕ, ◌<◌, ◌≤◌, List, [], ◌∷◌, ◌++◌, length, Some, None, refl, sym, ap, subst, ◌∙◌, arith}
use Rattle.std.proofs.lemmas.List.{length-append}
use Rattle.std.proofs.lemmas.Option.{some_pair_parts, none-some}
use Rattle.amqp_data.specs.Data.{Amqp, Items, no_items, item, items_depth}
use Rattle.amqp_data.specs.View.{view, items_view}
use Rattle.amqp_data.specs.declared.value.Value.{Value}
use Rattle.amqp_value.specs.declared.error.ValueError.{ValueError}
use Rattle.amqp_value.specs.declared.error.ValueError.TheVariants as errors
use Rattle.amqp_value.specs.Grammar.{Spells, scalar', empty_list, list', map', array', described', SpellAll, no_values, more_values}
use Rattle.amqp_value.specs.Reading.{Fails, value_at}
use Rattle.amqp_value.proofs.Numbers.{IsBytes}
use Rattle.amqp_value.proofs.Loops.{before, before_none, before_push}
use Rattle.amqp_value.proofs.Sound.{value_sound}
use Rattle.amqp_value.proofs.Complete.{value_again}

-- a spelling has a byte at least
spelled_pos : {text : List ℕ} {v : Amqp} → Spells text v → 0 < length text
spelled_pos (scalar' c text s l) = omega arith
spelled_pos empty_list = omega arith
spelled_pos (list' w vs items s few short) = omega arith
spelled_pos (map' w ps items s d few short) = omega arith
spelled_pos (array' w k c vs elements e l few short) = omega arith
spelled_pos (described' d v first rest s t) = omega arith

record Front (text : List ℕ) (v : Amqp) (vs : Items) : Type 0 where
  pub first : List ℕ
  pub rest : List ℕ
  pub parts : text ≡ first ++ rest
  pub one : Spells first v
  pub all : SpellAll rest vs

abbrev Parts : List ℕ → Items → Type 0
Parts text no_items = text ≡ []
Parts text (item v vs) = Front text v vs

in_parts : {text : List ℕ} {vs : Items} → SpellAll text vs → Parts text vs
in_parts no_values = refl
in_parts (more_values v vs first rest s all) = record { first = first; rest = rest; parts = refl; one = s; all = all }

-- the values that are still to come
pub record Coming (levels : ℕ) (front : List Value) (rest : List ℕ) (vs : Items) : Type 0 where
  pub after : Items
  pub joined : vs ≡ before front after
  pub spelled : SpellAll rest after
  pub nests : items_depth after ≤ levels

-- the values so far stand before the rest
pub record Going (levels : ℕ) (input : List ℕ) (front : List Value) (rest : List ℕ) : Type 0 where
  pub fits : IsBytes rest
  pub spelled : (ws : Items) → SpellAll rest ws → SpellAll input (before front ws)
  pub nests : (ws : Items) → items_depth ws ≤ levels → items_depth (before front ws) ≤ levels
  pub only : (vs : Items) → SpellAll input vs → items_depth vs ≤ levels → Coming levels front rest vs

pub starts : (levels : ℕ) (input : List ℕ) → IsBytes input → Going levels input [] input
starts levels input fits = record {
  fits = fits;
  spelled = λ ws s. s;
  nests = λ ws le. le;
  only = λ vs s le. record { after = vs; joined = refl; spelled = s; nests = le };
}

pub shorter : (levels : ℕ) (rest after : List ℕ) (v : Amqp) → IsBytes rest → value_at levels rest ≡ Some (v, after) → length after < length rest
shorter levels rest after v fits e =
    let t = value_sound levels rest (v, after) fits e in
    omega (arith, spelled_pos t.spelled, ap length t.parts, length-append t.text after)

same_front : (levels : ℕ) (front : List Value) (rest after : List ℕ) (v : Value) (vs : Items) → (rest ≡ [] → ⊥) → value_at levels rest ≡ Some (view v, after) → (ws : Items) → vs ≡ before front ws → Parts rest ws → items_depth ws ≤ levels → Coming levels (front ++ v ∷ []) after vs
same_front levels front rest after v vs some e no_items joined parts le = absurd (some parts)
same_front levels front rest after v vs some e (item w ws) joined p le =
    let again : value_at levels rest ≡ Some (w, p.rest) = ap (value_at levels) p.parts ∙ value_again levels p.rest p.one (omega (arith, le)) in
    let both = some_pair_parts (view v) w after p.rest (sym e ∙ again) in
    record {
      after = ws;
      joined = joined ∙ ap (λ (z : Amqp). before front (item z ws)) (sym both.0) ∙ sym (before_push front v ws);
      spelled = subst (λ (z : List ℕ). SpellAll z ws) (sym both.1) p.all;
      nests = omega (arith, le);
    }

pub goes_on : (levels : ℕ) (input : List ℕ) (front : List Value) (rest after : List ℕ) (v : Value) → (rest ≡ [] → ⊥) → value_at levels rest ≡ Some (view v, after) → Going levels input front rest → Going levels input (front ++ v ∷ []) after
goes_on levels input front rest after v some e g =
    let t = value_sound levels rest (view v, after) g.fits e in
    record {
      fits = t.rest_fits;
      spelled = λ ws s. subst (SpellAll input) (sym (before_push front v ws)) (g.spelled (item (view v) ws) (subst (λ (z : List ℕ). SpellAll z (item (view v) ws)) (sym t.parts) (more_values (view v) ws t.text after t.spelled s)));
      nests = λ ws le. omega (arith, ap items_depth (before_push front v ws), g.nests (item (view v) ws) (omega (arith, t.within, le)));
      only = λ vs s le. let c = g.only vs s le in same_front levels front rest after v vs some e c.after c.joined (in_parts c.spelled) c.nests;
    }

-- ---- the end of the input

empty_rest : (ws : Items) → Parts [] ws → ws ≡ no_items
empty_rest no_items p = refl
empty_rest (item w ws) p = absurd (omega (arith, spelled_pos p.one, ap length p.parts, length-append p.first p.rest))

pub all_spelled : (levels : ℕ) (input : List ℕ) (front : List Value) (rest : List ℕ) → rest ≡ [] → Going levels input front rest → SpellAll input (items_view front)
all_spelled levels input front rest e g = subst (SpellAll input) (before_none front) (g.spelled no_items (subst (λ (z : List ℕ). SpellAll z no_items) (sym e) no_values))

pub all_nest : (levels : ℕ) (input : List ℕ) (front : List Value) (rest : List ℕ) → Going levels input front rest → items_depth (items_view front) ≤ levels
all_nest levels input front rest g = omega (arith, ap items_depth (before_none front), g.nests no_items (omega arith))

pub they_are : (levels : ℕ) (input : List ℕ) (front : List Value) (rest : List ℕ) → rest ≡ [] → Going levels input front rest → (vs : Items) → SpellAll input vs → items_depth vs ≤ levels → items_view front ≡ vs
they_are levels input front rest e g vs s le =
    let c = g.only vs s le in
    let none : c.after ≡ no_items = empty_rest c.after (in_parts (subst (λ (z : List ℕ). SpellAll z c.after) e c.spelled)) in
    sym (c.joined ∙ ap (before front) none ∙ before_none front)

-- ---- no value begins the rest

no_front : (levels : ℕ) (rest : List ℕ) → (rest ≡ [] → ⊥) → value_at levels rest ≡ None → (ws : Items) → Parts rest ws → items_depth ws ≤ levels → ⊥
no_front levels rest some e no_items p le = some p
no_front levels rest some e (item w ws) p le = none-some (w, p.rest) (sym e ∙ ap (value_at levels) p.parts ∙ value_again levels p.rest p.one (omega (arith, le)))

pub none_fill : (levels : ℕ) (input : List ℕ) (front : List Value) (rest : List ℕ) → (rest ≡ [] → ⊥) → Going levels input front rest → (e : ValueError) → Fails e (value_at levels rest) → e ≡ errors.Decode → (vs : Items) → SpellAll input vs → items_depth vs ≤ levels → ⊥
none_fill levels input front rest some g (errors.Memory a) f e vs s le = cc
none_fill levels input front rest some g errors.Decode f e vs s le = let c = g.only vs s le in no_front levels rest some f c.after (in_parts c.spelled) c.nests
none_fill levels input front rest some g errors.Depth f e vs s le = f
none_fill levels input front rest some g errors.Size f e vs s le = f
none_fill levels input front rest some g errors.Short f e vs s le = f

-- ---- whether bytes are left

pub none_left : (rest : List ℕ) → length rest ≡ 0 → rest ≡ []
none_left [] e = refl
none_left (b ∷ rest) e = absurd (omega (arith, e))

pub some_left : (rest : List ℕ) → (length rest ≡ 0 → ⊥) → rest ≡ [] → ⊥
some_left rest h e = h (ap length e)
