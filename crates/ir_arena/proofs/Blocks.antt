-- What a block owns is taken apart and put together, by value and behind a `&mut`. Assumes `Logic`.
use Rattle.std.proofs.Common.{◌≡◌, ℕ, ◌+◌, ◌-◌, ◌*◌, ◌<◌, ◌^◌, List, [], ◌∷◌, ◌++◌, length, refl, sym, ap, ◌∙◌}
use seplogic.Ra.Ura.{Ura}
use base.Fraction.{full_share}
use mir.Syntax.{Args, a_type, dcons, dnil, ty_array}
use prog.Capped.{capped_is}
use prog.Memory.{size, align, capped}
use prog.RawLaws.{size-raw, align-raw}
use mir.Val.{Val, vstruct, vcons, vnil, of_list}
use base.Logic.{never, id⊢}
use base.Stored.{Gv}
use base.Fml.{Lft, GName, Share, Fml, fsep, froom, flft, fobs, fauth, fbor, fobor}
use types.Logic.{Logic}
use types.Kit.{Goal, Soaks, Step, step, Seq, Item, ‵, ◌$◌, move, drop, rewrite, fsplit, fjoin, fpick, feq_l, flt_l, flt_i}
use types.SemTy.{Body}
use denote.RattleType.{RattleType}
use denote.Memory.{cell_at, mem}
use denote.Param.{param, bounded}
use denote.RawPtr.{Ptr, block_ptr, ptr_val, in_a_block}
use denote.Shadow.{pure_i}
use denote.Steps.{opens, closes}
use denote.Struct.Struct.{Struct}
use denote.Struct.Owning.{shape}
use Rattle.std.proofs.mem.Param.{El, R, el_x, elτ}
use Rattle.std.proofs.alloc.Calls.{Al, token}
use Rattle.ir_arena.specs.Block.{room_of, block_owns}
use Rattle.ir_arena.specs.contracts.raw.Block as C
use Rattle.ir_arena.proofs.BlockRows.{bytes, values}

-- the machine value of a block
abbrev pub block_val : Ptr → Val
block_val p = vstruct (vcons (ptr_val p) (vcons (vstruct vnil) vnil))

module _ (V : El) (Y : Al) where
  abbrev pub Handle : RattleType
  Handle = param 1 Y.row

  abbrev pub Block : RattleType
  Block = C.the_row (R V) Handle Y.g

  -- the fields that are there when the program runs
  abbrev pub Words : RattleType
  Words = Struct (shape (C.the_type (R V) Handle Y.g))

  abbrev pub instance : Args
  instance = bounded (a_type ∷ a_type ∷ []) (V.row, (Y.row, tt)) (dcons Y.d (dcons Y.drops dnil))

  abbrev pub room_after : List (el_x V) → ℕ → ℕ → Fml
  room_after xs b o = froom (room_of (R V) (64 - length xs)) b (length xs * bytes V + o)

  -- room for 64 values is allocated and freed by its size and its alignment
  pub room_size : 64 * bytes V < 2 ^ 64 → capped (size (room_of (R V) 64)) ≡ 64 * bytes V
  room_size fits = ap capped (size-raw (ty_array (elτ V) 64)) ∙ capped_is (64 * bytes V) fits

  pub room_align : capped (align (room_of (R V) 64)) ≡ capped (align (elτ V))
  room_align = ap capped (align-raw (ty_array (elτ V) 64))

  -- the right to free the block
  abbrev pub right : Y.row.Denot → ℕ → ℕ → Fml
  right a b o = token Y a (room_of (R V) 64) (block_ptr b o)

module _ (V : El) (Y : Al) {M : Type 1} {𝓤 : Ura M} {𝓛 : Logic 𝓤} {K : Type 0} {Γ : List (Item 𝓤)} {G : Goal 𝓤 𝓛.H} where
  -- [the values; the room; the right]
  pub block_had : K → (h : (Block V Y).Denot) (vs : List Val)
      → ((b o : ℕ) → h.start ≡ block_ptr b o → vs ≡ block_val (block_ptr b o) ∷ [] → 64 * bytes V < 2 ^ 63 → length h.items < 65
      → Seq K 𝓛 (‵ (values V h.items b o) ∷ ‵ (room_after V Y h.items b o) ∷ ‵ (right V Y h.alloc b o) ∷ Γ) G)
      → Seq K 𝓛 (‵ ((Block V Y).own_val h vs) ∷ Γ) G
  block_had t h vs k =
      fsplit t $ fpick t (λ vss. fsplit t $ feq_l t (λ all. fsplit t $ feq_l t (λ first. fsplit t $ fpick t (λ none. fsplit t $ feq_l t (λ second. drop t $ drop t $
      in_a_block t h.start (λ p. block_owns (R V) (token Y h.alloc) p h.items) (id⊢ 𝓤 (never 𝓤)) (λ b o at.
      fsplit t $ fsplit t $ flt_l t (λ small. flt_l t (λ few. fsplit t $ fsplit t $
      k b o at (all ∙ ((λ i. vstruct (of_list (first i ++ (second i ++ []))) ∷ []) ∙ ap (λ (p : Ptr). block_val p ∷ []) at)) small few))))))))

  pub block_made : K → (h : (Block V Y).Denot) (b o : ℕ) → h.start ≡ block_ptr b o → 64 * bytes V < 2 ^ 63 → length h.items < 65
      → Step K 𝓛 (‵ ((Block V Y).own_val h (block_val (block_ptr b o) ∷ [])) ∷ Γ) G (‵ (values V h.items b o) ∷ ‵ (room_after V Y h.items b o) ∷ ‵ (right V Y h.alloc b o) ∷ Γ) G
  block_made t h b o at small few = step (λ s.
      let p : Ptr = block_ptr b o in
      fjoin t $ fjoin t $ flt_i t (length h.items) 65 few $ flt_i t (64 * bytes V) (2 ^ 63) small $ fjoin t $ fjoin t $
      pure_i t ((Words V Y).own_val (p, (tt, tt)) (block_val p ∷ [])) (λ vss. (tt, (tt, ((λ uss. (tt, tt)), tt))))
      ((ptr_val p ∷ [], (vstruct vnil ∷ [], tt)), (refl, (refl, ((tt, (refl, tt)), tt)))) $ fjoin t $
      rewrite t 0 (λ (r : Ptr). ‵ (fsep ((Words V Y).own_val (r, (tt, tt)) (block_val p ∷ [])) (block_owns (R V) (token Y h.alloc) r h.items))) (sym at) refl $ s)

module _ (V : El) (Y : Al) {M : Type 1} {𝓤 : Ura M} {𝓛 : Logic 𝓤} {K : Type 0} {Γ : List (Item 𝓤)} {G : Goal 𝓤 𝓛.H} where
  -- [the values; the room; the right; the pointer; the open borrow; obs; auth]
  pub block_opened : K → Soaks G → {κ : Lft} {q : Share} {γ : GName} (h : (Block V Y).Denot) (ref_block ref_offset : ℕ)
      → ((b o : ℕ) → h.start ≡ block_ptr b o → 64 * bytes V < 2 ^ 63 → length h.items < 65
      → Seq K 𝓛 (‵ (values V h.items b o) ∷ ‵ (room_after V Y h.items b o) ∷ ‵ (right V Y h.alloc b o) ∷ ‵ (cell_at full_share (Block V Y).mir (block_val (block_ptr b o) ∷ []) ref_block ref_offset)
      ∷ ‵ (fobor κ q (Body (mem (Block V Y)) ref_block ref_offset γ)) ∷ ‵ (fobs γ ((Block V Y).coded.code h)) ∷ ‵ (fauth γ ((Block V Y).coded.code h)) ∷ Γ) G)
      → Seq K 𝓛 (‵ (fobs γ ((Block V Y).coded.code h)) ∷ ‵ (fbor κ (Body (mem (Block V Y)) ref_block ref_offset γ)) ∷ ‵ (flft κ q) ∷ Γ) G
  block_opened t z h ref_block ref_offset k =
      opens t z (Block V Y) {h = h} ref_block ref_offset (λ vs. move t (1 ∷ []) $ block_had V Y t h vs (λ b o at is small few.
      rewrite t 3 (λ (ws : List Val). ‵ (cell_at full_share (Block V Y).mir ws ref_block ref_offset)) is refl $ k b o at small few))

  pub block_closed : K → Soaks G → {κ : Lft} {q : Share} {u v : Gv} {γ : GName} (h : (Block V Y).Denot) (b o ref_block ref_offset : ℕ) → h.start ≡ block_ptr b o → 64 * bytes V < 2 ^ 63 → length h.items < 65
      → Step K 𝓛 (‵ (fobs γ ((Block V Y).coded.code h)) ∷ ‵ (fbor κ (Body (mem (Block V Y)) ref_block ref_offset γ)) ∷ ‵ (flft κ q) ∷ Γ) G
      (‵ (values V h.items b o) ∷ ‵ (room_after V Y h.items b o) ∷ ‵ (right V Y h.alloc b o) ∷ ‵ (cell_at full_share (Block V Y).mir (block_val (block_ptr b o) ∷ []) ref_block ref_offset)
      ∷ ‵ (fobor κ q (Body (mem (Block V Y)) ref_block ref_offset γ)) ∷ ‵ (fobs γ u) ∷ ‵ (fauth γ v) ∷ Γ) G
  block_closed t z h b o ref_block ref_offset at small few = step (λ s. block_made V Y t h b o at small few $ move t (1 ∷ 0 ∷ []) $ closes t z (Block V Y) h (block_val (block_ptr b o) ∷ []) ref_block ref_offset $ s)
