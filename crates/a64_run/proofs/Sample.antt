-- The object that the tests run is good.
use Rattle.std.proofs.Common.{◌≡◌, ℕ, ◌^◌, ◌<◌, inl, List, [], ◌∷◌, refl, rules, lit<, lit≤}
use Rattle.std.specs.Prelude.{All}
use Rattle.std.proofs.lemmas.List.Elements.{All-from_recursion}
use Rattle.stackmap.specs.declared.site.Place.{Place}
use Rattle.exit_table.specs.Good.{HasFewPlaces, IsGoodFrame, IsGoodRep, IsGoodSite, IsGoodSlot, IsGoodTables}
use Rattle.exit_table.specs.declared.tables.FrameRow.{FrameRow}
use Rattle.exit_table.specs.declared.tables.SiteRow.{SiteRow}
use Rattle.exit_table.proofs.Clobbers.{call_clobbers, patchpoint_clobbers}
use Rattle.elf_obj.specs.Good.{HasItsWord, IsGood}
use Rattle.elf_obj.specs.declared.object.Symbol.{Symbol}
use Rattle.a64_run.specs.Sample.{words, wide, five, call, patch, exit_at, trap, rows, symbol, frame, object}

narrow : All (λ word. word < 2 ^ 32) words
narrow = All-from_recursion (λ word. word < 2 ^ 32) words
    (lit< tt, (lit< tt, (lit< tt, (lit< tt, (lit< tt, (lit< tt, (lit< tt, (lit< tt, (lit< tt, (lit< tt, (lit< tt, (lit< tt, (lit< tt, (lit< tt, tt))))))))))))))

good_frame : IsGoodFrame frame
good_frame = record {
  aligned = refl;
  least = lit≤ tt;
  limit = lit< tt;
  slots = All-from_recursion (IsGoodSlot 32) frame.slots (record { holds = lit≤ tt; aligned = refl; ends = lit≤ tt; begins = lit≤ tt }, tt);
  saved = search rules;
  rising = search rules;
  disjoint = search rules;
}

reps_of_call : All (λ (place : Place). IsGoodRep frame place.width place.rep) call.site.reps
reps_of_call = All-from_recursion (λ (place : Place). IsGoodRep frame place.width place.rep) call.site.reps (inl (lit≤ tt), (inl (lit≤ tt), tt))

reps_of_patch : All (λ (place : Place). IsGoodRep frame place.width place.rep) patch.site.reps
reps_of_patch = All-from_recursion (λ (place : Place). IsGoodRep frame place.width place.rep) patch.site.reps (inl (lit≤ tt), (lit< tt, tt))

reps_of_exit : All (λ (place : Place). IsGoodRep frame place.width place.rep) (wide 0 ∷ five ∷ [])
reps_of_exit = All-from_recursion (λ (place : Place). IsGoodRep frame place.width place.rep) (wide 0 ∷ five ∷ []) (inl (lit≤ tt), (lit< tt, tt))

good_call : IsGoodSite (56 ∷ []) (frame ∷ []) call
good_call = record {
  procedure = 0;
  stands = record {
    begins = lit≤ tt;
    ends = lit≤ tt;
    value = lit< tt;
    kind = record { size = refl; arguments = (refl, (refl, tt)); few = lit≤ tt; answers = refl; clobbers = call_clobbers 0x4007_FFFF refl };
    places = reps_of_call;
  };
}

good_patch : IsGoodSite (56 ∷ []) (frame ∷ []) patch
good_patch = record {
  procedure = 0;
  stands = record {
    begins = lit≤ tt;
    ends = lit≤ tt;
    value = lit< tt;
    kind = record { least = lit≤ tt; most = lit≤ tt; answers = lit≤ tt; clobbers = patchpoint_clobbers 4 (lit< tt) refl };
    places = reps_of_patch;
  };
}

good_first : IsGoodSite (56 ∷ []) (frame ∷ []) (exit_at 36 5)
good_first = record {
  procedure = 0;
  stands = record { begins = lit≤ tt; ends = lit≤ tt; value = lit< tt; kind = record { size = refl; answers = refl; clobbers = refl }; places = reps_of_exit };
}

good_second : IsGoodSite (56 ∷ []) (frame ∷ []) (exit_at 44 6)
good_second = record {
  procedure = 0;
  stands = record { begins = lit≤ tt; ends = lit≤ tt; value = lit< tt; kind = record { size = refl; answers = refl; clobbers = refl }; places = reps_of_exit };
}

good_trap : IsGoodSite (56 ∷ []) (frame ∷ []) trap
good_trap = record {
  procedure = 0;
  stands = record {
    begins = lit≤ tt;
    ends = lit≤ tt;
    value = lit< tt;
    kind = record { size = refl; reports = refl; answers = refl; clobbers = refl };
    places = search rules;
  };
}

good_tables : IsGoodTables (56 ∷ []) object.tables
good_tables = record {
  count = refl;
  frames = All-from_recursion IsGoodFrame (frame ∷ []) (good_frame, tt);
  order = (refl, lit≤ tt, (refl, lit≤ tt, (refl, lit≤ tt, (refl, lit≤ tt, (refl, lit≤ tt, tt)))));
  sites = All-from_recursion (IsGoodSite (56 ∷ []) (frame ∷ [])) rows (good_call, (good_patch, (good_first, (good_second, (good_trap, tt)))));
}

pub good : IsGood object
good = record {
  few_words = lit< tt;
  narrow = narrow;
  fills = (refl, lit< tt, refl, refl);
  names = search rules;
  distinct = search rules;
  tables = good_tables;
  few_places = All-from_recursion HasFewPlaces rows (lit< tt, (lit< tt, (lit< tt, (lit< tt, (lit< tt, tt)))));
  words = All-from_recursion (HasItsWord words) rows ((9, lit≤ tt, refl), (tt, (refl, (refl, (tt, tt)))));
}

pub same_good : (text : List ℕ) (symbols : List Symbol) (frames : List FrameRow) (sites : List SiteRow) → text ≡ words → symbols ≡ symbol ∷ []
    → frames ≡ frame ∷ [] → sites ≡ rows
    → IsGood (record { text = text; symbols = symbols; tables = record { frames = frames; sites = sites } })
same_good text symbols frames sites t s f r = rw (t, s, f, r) good
