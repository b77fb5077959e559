-- The first breach of the procedures of a module, one after the other.
use Rattle.std.proofs.Common.{◌≡◌, ◌↔◌, ℕ, ◌+◌, ◌<◌, ◌≤◌, ◌⊎◌, inl, inr, Bool, true, false, cond, List, length, Option, None, Some, refl, sym, ap, subst, ◌∙◌, arith}
use Rattle.std.specs.Prelude.{IsTrue, IfSome, bytes_eq, if◌then◌else◌, not, option_map, slice_get}
use Rattle.std.proofs.lemmas.Bool.{cases_Bool, cases_order, false≢true}
use Rattle.std.proofs.lemmas.Option.{slice_get_within, slice_get-map}
use Rattle.std.proofs.lemmas.Slice.Eq.{bytes_eq-Decides}
use denote.Ref.{Bor}
use Rattle.b3_ir.specs.Procedure.{Kept, Procedure, procedures}
use Rattle.b3_rules.specs.Breaches.{Breach, IsBreach, IsNoLater}
use Rattle.b3_rules.specs.Least.{CoversAll, IsFirstUncovered}
use Rattle.b3_rules.specs.Numbers.{number_of}
use Rattle.b3_rules.specs.Rules.{HasNewName}
use Rattle.b3_rules.specs.Valid.{IsPartOf, IsValid, Keeps, Part, Header, SlotAt, HeadingAt, ValueAt, line_of}
use Rattle.b3_rules.specs.declared.rule.Rule.{Rule}
use Rattle.b3_rules.specs.declared.rule.Rule.TheVariants as rule
use Rattle.b3_validate.specs.declared.found.Found.{Found}
use Rattle.b3_validate.specs.declared.spot.Spot.{Spot}
use Rattle.b3_validate.specs.Spots.{BreaksAt, IsAny, IsBeforeSpot, IsLeast, IsLeastIn, IsNoLaterSpot, IsSooner, PartsKeep}
use Rattle.b3_validate.specs.Firsts.{IsEarlierOf, IsFirstAt, IsFirstBelow, IsOther, IsUses, KeepBelow, KeepsSome, breach_at, breach_of}
use Rattle.b3_validate.specs.Faults.{IsInvalid}
use Rattle.b3_validate.proofs.Leasts.{join}
use Rattle.b3_validate.proofs.RuleNumbers.{same_rule, uses_or_other}

-- a procedure of a module as it is kept
pub procedure_at : (ms : List Kept) (k : ℕ) (m : Kept) → slice_get ms k ≡ Some m → slice_get (procedures ms) k ≡ Some m.procedure
procedure_at ms k m there = slice_get-map (λ (x : Kept). x.procedure) ms k ∙ ap (option_map (λ (x : Kept). x.procedure)) there

-- ---- orders

abbrev spot_in : Breach → Spot
spot_in b = record { line = b.line; rule = b.rule }

-- a spot that comes no later is a breach that comes no later, where its procedure does
later_breach : (a b : Breach) → IsNoLaterSpot (spot_in a) (spot_in b) → a.procedure ≤ b.procedure → IsNoLater a b
later_breach a b earlier le =
    elim earlier [
      | inl less ↦ inl less
      | inr same ↦ elim (cases_order (number_of a.rule) (number_of b.rule)) [
        | inl one ↦ inr (same.0, inr (same_rule a.rule b.rule one, le))
        | inr apart ↦ elim apart [ inl less ↦ inr (same.0, inl less) | inr more ↦ absurd (omega (arith, same.1)) ]
      ]
    ]

-- a spot that comes before is a breach that comes before
before_breach : (a b : Breach) → IsBeforeSpot (spot_in a) (spot_in b) → IsNoLater a b
before_breach a b before = elim before [ inl less ↦ inl less | inr same ↦ inr (same.0, inl same.1) ]

no_later_through : (a b c : Breach) → IsNoLater a b → IsNoLater b c → IsNoLater a c
no_later_through a b c x y =
    elim x [
      | inl less ↦ elim y [ inl more ↦ inl (omega arith) | inr same ↦ inl (omega (arith, same.0)) ]
      | inr same ↦ elim y [
        | inl more ↦ inl (omega (arith, same.0))
        | inr also ↦ inr (
          same.0 ∙ also.0,
          elim same.1 [
            | inl lower ↦ elim also.1 [ inl more ↦ inl (omega arith) | inr one ↦ inl (let n : number_of b.rule ≡ number_of c.rule = ap number_of one.0 in omega arith) ]
            | inr one ↦ elim also.1 [
              | inl more ↦ inl (let n : number_of a.rule ≡ number_of b.rule = ap number_of one.0 in omega arith)
              | inr two ↦ inr (one.0 ∙ two.0, omega (arith, one.1, two.1))
            ]
          ],
        )
      ]
    ]

-- ---- one procedure more

-- what keeps a rule isn't broken
no_breach : (some : Rule → Type 0) (ps : List Procedure) (k : ℕ) (p : Procedure) (b : Breach) → slice_get ps k ≡ Some p → KeepsSome some ps k p → some b.rule → IsBreach ps b → b.procedure ≡ k → ⊥
no_breach some ps k p b there keeps is breach at =
    elim breach [
      | inl repeats ↦
          let also : slice_get ps k ≡ Some repeats.procedure = subst (λ (n : ℕ). slice_get ps n ≡ Some repeats.procedure) at repeats.there in
          let same : p ≡ repeats.procedure = cc in
          let new : HasNewName ps b.procedure repeats.procedure = subst (λ (n : ℕ). HasNewName ps n repeats.procedure) (sym at) (subst (HasNewName ps k) same ((keeps b.rule is).0 repeats.on_names)) in
          repeats.breaks new
      | inr breaks ↦
          let also : slice_get ps k ≡ Some breaks.procedure = subst (λ (n : ℕ). slice_get ps n ≡ Some breaks.procedure) at breaks.there in
          let same : breaks.procedure ≡ p = cc in
          let part : IsPartOf p breaks.part = subst (λ (q : Procedure). IsPartOf q breaks.part) same breaks.is_part in
          breaks.breaks (subst (λ (q : Procedure). Keeps b.rule q breaks.part) (sym same) ((keeps b.rule is).1 breaks.part part))
    ]

module _ (some : Rule → Type 0) (ps : List Procedure) (n : ℕ) (p : Procedure) (there : slice_get ps n ≡ Some p) where
  keep_next : KeepBelow some ps n → KeepsSome some ps n p → KeepBelow some ps (n + 1)
  keep_next below here k q at less =
      elim (cases_order k n) [
        | inl now ↦
            let also : slice_get ps n ≡ Some q = subst (λ (x : ℕ). slice_get ps x ≡ Some q) now at in
            let same : p ≡ q = cc in
            subst (λ (x : ℕ). KeepsSome some ps x q) (sym now) (subst (KeepsSome some ps n) same here)
        | inr apart ↦ elim apart [ inl before ↦ below k q at before | inr after ↦ absurd (omega arith) ]
      ]

  -- where a breach before the next place stands
  placed : (b : Breach) → b.procedure < n + 1 → (b.procedure < n) ⊎ (b.procedure ≡ n)
  placed b less = elim (cases_order b.procedure n) [ inl now ↦ inr now | inr apart ↦ elim apart [ inl before ↦ inl before | inr after ↦ absurd (omega arith) ] ]

  below_breach : KeepBelow some ps n → (b : Breach) → some b.rule → IsBreach ps b → b.procedure < n → ⊥
  below_breach below b is breach less =
      elim breach [
        | inl repeats ↦ no_breach some ps b.procedure repeats.procedure b repeats.there (below b.procedure repeats.procedure repeats.there less) is (inl repeats) refl
        | inr breaks ↦ no_breach some ps b.procedure breaks.procedure b breaks.there (below b.procedure breaks.procedure breaks.there less) is (inr breaks) refl
      ]

  pub first_next : (found : Option Found) (spot : Option Spot) (r : Option Found) → IsFirstBelow some ps n found → IsFirstAt some ps n p spot → IsEarlierOf found spot n r → IsFirstBelow some ps (n + 1) r
  first_next None None r below here e = subst (IsFirstBelow some ps (n + 1)) (sym e) (keep_next below here)
  first_next (Some f) None r first here e =
      subst (IsFirstBelow some ps (n + 1)) (sym e) (
        first.0,
        omega (arith, first.1),
        first.2,
        λ o is breach less. elim (placed o less) [
          | inl before ↦ first.3 o is breach before
          | inr now ↦ absurd (no_breach some ps n p o there here is breach now)
        ],
      )
  first_next None (Some s) r below here e =
      subst (IsFirstBelow some ps (n + 1)) (sym e) (
        here.0,
        omega arith,
        here.1,
        λ o is breach less. elim (placed o less) [
          | inl before ↦ absurd (below_breach below o is breach before)
          | inr now ↦ later_breach (breach_at n s) o (here.2 o is breach now) (omega arith)
        ],
      )
  first_next (Some f) (Some s) r first here e =
      elim e [
        | inl old ↦ subst (IsFirstBelow some ps (n + 1)) (sym old.0) (
          first.0,
          omega (arith, first.1),
          first.2,
          λ o is breach less. elim (placed o less) [
            | inl before ↦ first.3 o is breach before
            | inr now ↦ no_later_through (breach_of f) (breach_at n s) o (later_breach (breach_of f) (breach_at n s) old.1 (omega (arith, first.1))) (later_breach (breach_at n s) o (here.2 o is breach now) (omega arith))
          ],
        )
        | inr new ↦ subst (IsFirstBelow some ps (n + 1)) (sym new.0) (
          here.0,
          omega arith,
          here.1,
          λ o is breach less. elim (placed o less) [
            | inl before ↦ no_later_through (breach_at n s) (breach_of f) o (before_breach (breach_at n s) (breach_of f) new.1) (first.3 o is breach before)
            | inr now ↦ later_breach (breach_at n s) o (here.2 o is breach now) (omega arith)
          ],
        )
      ]

-- ---- the rules other than that on uses, in one procedure

abbrev NameAt : List Procedure → ℕ → Procedure → Spot → Type 0
NameAt ps k p s = (s ≡ record { line = p.line; rule = rule.Names }) × ¬ (HasNewName ps k p)

abbrev on_line : ℕ → Rule → Spot
on_line line r = record { line = line; rule = r }

abbrev names_spot : Procedure → Bool → Option Spot
names_spot p new = option_map (on_line p.line) (if new then None else Some rule.Names)

pub spot_of_name : (p : Procedure) (line : ℕ) (new : Bool) (o : Option Rule) (spot : Option Spot) → spot ≡ option_map (λ (r : Rule). record { line = line; rule = r }) o → line ≡ p.line → o ≡ (if new then None else Some rule.Names) → spot ≡ names_spot p new
spot_of_name p line new o spot e is are = e ∙ ap (λ (l : ℕ). option_map (on_line l) o) is ∙ ap (option_map (on_line p.line)) are

name_first : (ps : List Procedure) (k : ℕ) (p : Procedure) (new : Bool) → (IsTrue new ↔ HasNewName ps k p) → IsLeast (HasNewName ps k p) (NameAt ps k p) (names_spot p new)
name_first ps k p true tells = (tells.0 refl, λ s at. at.1 (tells.0 refl))
name_first ps k p false tells = ((refl, λ new. false≢true (tells.1 new)), λ o at. inr (ap (λ (s : Spot). s.line) (sym at.0), let n : number_of rule.Names ≡ number_of o.rule = ap (λ (s : Spot). number_of s.rule) (sym at.0) in omega arith))

module _ (ps : List Procedure) (k : ℕ) (p : Procedure) (there : slice_get ps k ≡ Some p) where
  -- a breach of another rule, as a spot of the procedure
  as_spot : (o : Breach) → IsOther o.rule → IsBreach ps o → o.procedure ≡ k → NameAt ps k p (spot_in o) ⊎ BreaksAt p IsAny (spot_in o)
  as_spot o is breach at =
      elim breach [
        | inl repeats ↦
            let also : slice_get ps k ≡ Some repeats.procedure = subst (λ (n : ℕ). slice_get ps n ≡ Some repeats.procedure) at repeats.there in
            let same : repeats.procedure ≡ p = cc in
            let line : o.line ≡ p.line = sym repeats.on_line ∙ ap (λ (q : Procedure). q.line) same in
            let of_names : o.rule ≡ rule.Names = repeats.on_names in
            inl (cc, λ new. repeats.breaks (subst (λ (n : ℕ). HasNewName ps n repeats.procedure) (sym at) (subst (HasNewName ps k) (sym same) new)))
        | inr breaks ↦
            let also : slice_get ps k ≡ Some breaks.procedure = subst (λ (n : ℕ). slice_get ps n ≡ Some breaks.procedure) at breaks.there in
            let same : breaks.procedure ≡ p = cc in
            inr (record {
              part = breaks.part;
              is_part = subst (λ (q : Procedure). IsPartOf q breaks.part) same breaks.is_part;
              is_seen = tt;
              on_line = ap (λ (q : Procedure). line_of q breaks.part) (sym same) ∙ breaks.on_line;
              other_rule = is;
              breaks = λ keeps. breaks.breaks (subst (λ (q : Procedure). Keeps o.rule q breaks.part) (sym same) keeps);
            })
      ]

  as_breach : (s : Spot) → NameAt ps k p s ⊎ BreaksAt p IsAny s → IsOther s.rule × IsBreach ps (breach_at k s)
  as_breach s broken =
      elim broken [
        | inl name ↦ (
          λ uses. let names : s.rule ≡ rule.Names = ap (λ (x : Spot). x.rule) name.0 in cc,
          inl (record {
            on_names = ap (λ (x : Spot). x.rule) name.0;
            procedure = p;
            there = there;
            on_line = sym (ap (λ (x : Spot). x.line) name.0);
            breaks = name.1;
          }),
        )
        | inr part ↦ (part.other_rule, inr (record { procedure = p; there = there; part = part.part; is_part = part.is_part; on_line = part.on_line; breaks = part.breaks }))
      ]

  others_at : (r : Option Spot) → IsLeast (HasNewName ps k p × PartsKeep p IsAny) (λ s. NameAt ps k p s ⊎ BreaksAt p IsAny s) r → IsFirstAt IsOther ps k p r
  others_at None least = λ r is. ((λ _. least.0.0), λ part is_part. least.0.1 r part is is_part tt)
  others_at (Some s) least =
      let here = as_breach s least.0 in
      (here.0, here.1, λ o is breach at. least.1 (spot_in o) (as_spot o is breach at))

  pub others_first : (new : Bool) (name spot r : Option Spot) → (IsTrue new ↔ HasNewName ps k p) → name ≡ names_spot p new → IsLeastIn p IsAny spot → IsSooner name spot r → IsFirstAt IsOther ps k p r
  others_first new name spot r tells e least sooner =
      others_at r (join (HasNewName ps k p) (PartsKeep p IsAny) (NameAt ps k p) (BreaksAt p IsAny) name spot r (subst (IsLeast (HasNewName ps k p) (NameAt ps k p)) (sym e) (name_first ps k p new tells)) least sooner)

  -- ---- the rule on uses, in one procedure

  keeps_uses : CoversAll p → (part : Part) → IsPartOf p part → Keeps rule.Uses p part
  keeps_uses covers Header at = tt
  keeps_uses covers (SlotAt place slot) at = tt
  keeps_uses covers (HeadingAt place block) at = tt
  keeps_uses covers (ValueAt b j v) at = covers b j v at

  uses_line : (line : ℕ) (q : Part) (l : ℕ) → IsFirstUncovered p line → IsPartOf p q → line_of p q ≡ l → ¬ (Keeps rule.Uses p q) → line ≤ l
  uses_line line Header l first is on breaks = absurd (breaks tt)
  uses_line line (SlotAt place slot) l first is on breaks = absurd (breaks tt)
  uses_line line (HeadingAt place block) l first is on breaks = absurd (breaks tt)
  uses_line line (ValueAt b j v) l first is on breaks = let le = first.first b j v is breaks in omega (arith, on)

  pub uses_first : (line : Option ℕ) → (line ≡ None → CoversAll p) → IfSome line (IsFirstUncovered p) → IsFirstAt IsUses ps k p (option_map (λ l. record { line = l; rule = rule.Uses }) line)
  uses_first None covers none = λ r is. (
    (λ names. absurd (let e : rule.Uses ≡ rule.Names = sym is ∙ names in cc)),
    λ part is_part. subst (λ (x : Rule). Keeps x p part) (sym is) (keeps_uses (covers refl) part is_part),
  )
  uses_first (Some line) covers first = (
    refl,
    inr (record {
      procedure = p;
      there = there;
      part = ValueAt first.block first.place first.value;
      is_part = first.there;
      on_line = first.on_line;
      breaks = first.uncovered;
    }),
    λ o is breach at. elim breach [
      | inl repeats ↦ absurd (let e : rule.Uses ≡ rule.Names = sym is ∙ repeats.on_names in cc)
      | inr breaks ↦
          let also : slice_get ps k ≡ Some breaks.procedure = subst (λ (n : ℕ). slice_get ps n ≡ Some breaks.procedure) at breaks.there in
          let same : breaks.procedure ≡ p = cc in
          let part : IsPartOf p breaks.part = subst (λ (q : Procedure). IsPartOf q breaks.part) same breaks.is_part in
          let on : line_of p breaks.part ≡ o.line = ap (λ (q : Procedure). line_of q breaks.part) (sym same) ∙ breaks.on_line in
          let uncovered : ¬ (Keeps rule.Uses p breaks.part) = λ keeps. breaks.breaks (subst (λ (x : Rule). Keeps x breaks.procedure breaks.part) (sym is) (subst (λ (q : Procedure). Keeps rule.Uses q breaks.part) (sym same) keeps)) in
          let le : line ≤ o.line = uses_line line breaks.part o.line first part on uncovered in
          elim (cases_order line o.line) [
            | inl one ↦ inr (one, let n : number_of rule.Uses ≡ number_of o.rule = ap number_of (sym is) in omega arith)
            | inr apart ↦ elim apart [ inl less ↦ inl less | inr more ↦ absurd (omega arith) ]
          ]
    ],
  )

-- ---- the whole module

within : (ps : List Procedure) (b : Breach) → IsBreach ps b → b.procedure < length ps
within ps b breach =
    elim breach [
      | inl repeats ↦ slice_get_within ps b.procedure repeats.procedure repeats.there
      | inr breaks ↦ slice_get_within ps b.procedure breaks.procedure breaks.there
    ]

not_valid : (ps : List Procedure) (b : Breach) → IsBreach ps b → ¬ (IsValid ps)
not_valid ps b breach valid =
    elim breach [
      | inl repeats ↦ repeats.breaks (valid.names b.procedure repeats.procedure repeats.there)
      | inr breaks ↦ breaks.breaks (valid.each b.procedure breaks.procedure breaks.there b.rule breaks.part breaks.is_part)
    ]

pub other_invalid : (ps : List Procedure) (found : Found) → IsFirstBelow IsOther ps (length ps) (Some found) → IsInvalid ps (number_of found.spot.rule) found.procedure found.spot.line
other_invalid ps found first = record {
  broken = found.spot.rule;
  is_number = refl;
  first = record {
    counts = record { is_breach = first.2; alone = λ uses. absurd (first.0 uses) };
    first = λ o counts. elim (uses_or_other o.rule) [
      | inl uses ↦ absurd (first.0 (counts.alone uses (breach_of found) first.2))
      | inr other ↦ first.3 o other.0 counts.is_breach (within ps o counts.is_breach)
    ];
  };
  refused = not_valid ps (breach_of found) first.2;
}

-- where no other rule is broken, each breach is of the rule on uses
all_uses : (ps : List Procedure) → KeepBelow IsOther ps (length ps) → (o : Breach) → IsBreach ps o → o.rule ≡ rule.Uses
all_uses ps keep o breach =
    elim (uses_or_other o.rule) [
      | inl uses ↦ uses
      | inr other ↦ absurd (elim breach [
        | inl repeats ↦ no_breach IsOther ps o.procedure repeats.procedure o repeats.there (keep o.procedure repeats.procedure repeats.there (slice_get_within ps o.procedure repeats.procedure repeats.there)) other.0 (inl repeats) refl
        | inr breaks ↦ no_breach IsOther ps o.procedure breaks.procedure o breaks.there (keep o.procedure breaks.procedure breaks.there (slice_get_within ps o.procedure breaks.procedure breaks.there)) other.0 (inr breaks) refl
      ])
    ]

pub use_invalid : (ps : List Procedure) (found : Found) → KeepBelow IsOther ps (length ps) → IsFirstBelow IsUses ps (length ps) (Some found) → IsInvalid ps (number_of found.spot.rule) found.procedure found.spot.line
use_invalid ps found keep first = record {
  broken = found.spot.rule;
  is_number = refl;
  first = record {
    counts = record { is_breach = first.2; alone = λ uses o breach. all_uses ps keep o breach };
    first = λ o counts. first.3 o (all_uses ps keep o counts.is_breach) counts.is_breach (within ps o counts.is_breach);
  };
  refused = not_valid ps (breach_of found) first.2;
}

pub all_valid : (ps : List Procedure) → KeepBelow IsOther ps (length ps) → KeepBelow IsUses ps (length ps) → IsValid ps
all_valid ps keep uses = record {
  names = λ k p there. (keep k p there (slice_get_within ps k p there) rule.Names (λ e. cc)).0 refl;
  each = λ k p there r part is_part. elim (uses_or_other r) [
    | inl is ↦ (uses k p there (slice_get_within ps k p there) r is).1 part is_part
    | inr other ↦ (keep k p there (slice_get_within ps k p there) r other.0).1 part is_part
  ];
}

-- ---- names

abbrev Naming : List Procedure → ℕ → (Bor (List ℕ) → Bool) → Type 0
Naming ps n has = (q : Bor (List ℕ)) → IsTrue (has q) ↔ ((k : ℕ) × (p : Procedure) × (slice_get ps k ≡ Some p) × (k < n) × (p.name ≡ q.now))

pub no_names : (ps : List Procedure) (has : Bor (List ℕ) → Bool) → ((q : Bor (List ℕ)) → has q ≡ false) → Naming ps 0 has
no_names ps has empty q = (λ yes. absurd (false≢true (sym (empty q) ∙ yes)), λ h. absurd (omega (arith, h.3)))

pub new_name : (ps : List Procedure) (n : ℕ) (p : Procedure) (name : Bor (List ℕ)) (has : Bor (List ℕ) → Bool) (new : Bool) → Naming ps n has → name.now ≡ p.name → new ≡ not (has name) → IsTrue new ↔ HasNewName ps n p
new_name ps n p name has new naming is e = (
  λ yes k q there less same.
      let had : has name ≡ true = (naming name).1 (k, q, there, less, same ∙ sym is) in
      let said : new ≡ false = e ∙ ap not had in
      false≢true (sym said ∙ yes),
  λ fresh. elim (cases_Bool (has name)) [
    | inl had ↦ absurd (let h = (naming name).0 had in fresh h.0 h.1 h.2 h.3 (h.4 ∙ is))
    | inr absent ↦ e ∙ ap not absent
  ],
)

pub more_names : (ps : List Procedure) (n : ℕ) (p : Procedure) (name : Bor (List ℕ)) (has next : Bor (List ℕ) → Bool) → slice_get ps n ≡ Some p → Naming ps n has → name.now ≡ p.name → ((q : Bor (List ℕ)) → next q ≡ cond (bytes_eq name.now q.now) true (has q)) → Naming ps (n + 1) next
more_names ps n p name has next there naming is are q =
    let tells = bytes_eq-Decides name.now q.now in
    elim (cases_Bool (bytes_eq name.now q.now)) [
      | inl same ↦ (
        λ _. (n, p, there, omega arith, sym is ∙ tells.0 same),
        λ _. are q ∙ ap (λ (t : Bool). cond t true (has q)) same,
      )
      | inr other ↦
          let now : next q ≡ has q = are q ∙ ap (λ (t : Bool). cond t true (has q)) other in (
            λ yes. let h = (naming q).0 (sym now ∙ yes) in (h.0, h.1, h.2, omega (arith, h.3), h.4),
            λ h. now ∙ (naming q).1 (elim (cases_order h.0 n) [
              | inl here ↦
                  let at : slice_get ps n ≡ Some h.1 = subst (λ (k : ℕ). slice_get ps k ≡ Some h.1) here h.2 in
                  let one : p ≡ h.1 = cc in
                  absurd (false≢true (sym other ∙ tells.1 (is ∙ ap (λ (x : Procedure). x.name) one ∙ h.4)))
              | inr apart ↦ elim apart [ inl less ↦ (h.0, h.1, h.2, less, h.4) | inr more ↦ absurd (omega (arith, h.3)) ]
            ]),
          )
    ]
