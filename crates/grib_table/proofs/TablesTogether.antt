-- The tables of a run, as they were read one after the other.
use Rattle.std.proofs.Common.{◌≡◌, ℕ, List, [], Option, Some, None, Ok, Err, refl, ap, ◌∙◌}
use Rattle.std.specs.declared.result.Result.{Result}
use Rattle.std.specs.Prelude.{IsErrAnd}
use Rattle.grib_reasons.specs.declared.table.TableRefusal.{TableRefusal}
use Rattle.grib_io.specs.Shelves.{Held, Stays}
use Rattle.grib_params.specs.Table.{Entries}
use Rattle.grib_params.specs.Surfaces.{SurfaceEntries}
use Rattle.grib_names.specs.Table.{NameEntries}
use Rattle.grib_table.specs.declared.together.Tables.{Tables}
use Rattle.grib_table.specs.declared.stop.TableStop.{TableStop}
use Rattle.grib_table.specs.declared.stop.TableStop.TheVariants as stops
use Rattle.grib_table.specs.declared.stop.TablesStop.{TablesStop}
use Rattle.grib_table.specs.Tabled.{Tabled, Good, Refused, parameters_of, surfaces_of, names_of, tabled}
use Rattle.grib_table.specs.Together.{Asked, together_by, tabled_where, StoodWhere, StandsAs, ReadsTables, ReadsWhere, table_stop, surfaces_stop}
use Rattle.grib_io.proofs.Under.{stays_along}

-- ---- one table

-- what stands under the name, where there is one, as this
abbrev pub StandsWhere : {X : Type 0} → (List ℕ → Tabled (List X)) → Option Held → Option (List ℕ) → Tabled (List X) → Type 0
StandsWhere table_of shelf name what = (text : Option (List ℕ)) × StoodWhere shelf name text × (tabled_where table_of name text ≡ what)

pub good_stands : {X : Type 0} (table_of : List ℕ → Tabled (List X)) (shelf : Option Held) (name : Option (List ℕ)) (table : List X) → ReadsWhere table_of (Ok table) shelf name
    → StandsWhere table_of shelf name (Good table)
good_stands table_of shelf None table is = let same : [] ≡ table = cc in (None, tt, ap Good same)
good_stands table_of shelf (Some name) table read = read

refused_stands : {X : Type 0} (table_of : List ℕ → Tabled (List X)) (shelf : Option Held) (name : Option (List ℕ)) (refusal : TableRefusal) → ReadsWhere table_of (Err (stops.Refused refusal)) shelf name
    → StandsWhere table_of shelf name (Refused refusal)
refused_stands table_of shelf None refusal is = let no : ⊥ = cc in absurd no
refused_stands table_of shelf (Some name) refusal read = read

-- something stands there
some_stands : {X : Type 0} (table_of : List ℕ → Tabled (List X)) (shelf : Option Held) (name : Option (List ℕ)) → (what : Tabled (List X)) × StandsWhere table_of shelf name what
some_stands table_of shelf None = (Good [], (None, tt, refl))
some_stands table_of None (Some name) = (tabled table_of None, (None, tt, refl))
some_stands table_of (Some held) (Some name) = (tabled table_of (held name), (held name, refl, refl))

-- what stands on a shelf that stays stood there before
where_before : (before mid : Option Held) (name : Option (List ℕ)) (text : Option (List ℕ)) → Stays before mid → StoodWhere mid name text → StoodWhere before name text
where_before before mid None text stays stood = tt
where_before None mid (Some name) text stays stood = tt
where_before (Some before) None (Some name) text stays stood = absurd stays
where_before (Some before) (Some mid) (Some name) text stays stood = stood ∙ stays name

stands_before : {X : Type 0} (table_of : List ℕ → Tabled (List X)) (before mid : Option Held) (name : Option (List ℕ)) (what : Tabled (List X)) → Stays before mid
    → StandsWhere table_of mid name what → StandsWhere table_of before name what
stands_before table_of before mid name what stays (text, stood, is) = (text, where_before before mid name text stays stood, is)

-- ---- all of them

module _ (shelf : Option Held) (asked : Asked) where
  join : (parameters : Tabled Entries) (surfaces : Tabled SurfaceEntries) (names : Tabled NameEntries) → StandsWhere parameters_of shelf asked.parameters parameters
      → StandsWhere surfaces_of shelf asked.surfaces surfaces → StandsWhere names_of shelf asked.names names → StandsAs shelf asked (together_by parameters surfaces names)
  join parameters surfaces names first second third = (
    record { parameters = first.0; surfaces = second.0; names = third.0; file = None },
    (first.1, (second.1, third.1)),
    ap (λ (t : Tabled Entries). together_by t (tabled_where surfaces_of asked.surfaces second.0) (tabled_where names_of asked.names third.0)) first.2
        ∙ (ap (λ (t : Tabled SurfaceEntries). together_by parameters t (tabled_where names_of asked.names third.0)) second.2
        ∙ ap (together_by parameters surfaces) third.2),
  )

  -- the parameter table is not read
  first_stops : (stop : TableStop) → ReadsWhere parameters_of (Err stop) shelf asked.parameters → ReadsTables (Err (table_stop stop)) shelf asked
  first_stops (stops.Refused refusal) read =
      let second = some_stands surfaces_of shelf asked.surfaces in
      let third = some_stands names_of shelf asked.names in
      join (Refused refusal) second.0 third.0 (refused_stands parameters_of shelf asked.parameters refusal read) second.1 third.1
  first_stops stops.ShelfFault read = tt
  first_stops stops.Memory read = tt

  pub by_parameters : (result : Result Tables TablesStop) (stop : TableStop) → ReadsWhere parameters_of (Err stop) shelf asked.parameters → IsErrAnd result (λ e. e ≡ table_stop stop)
      → ReadsTables result shelf asked
  by_parameters (Ok tables) stop read err = absurd err
  by_parameters (Err e) stop read err = rw err (first_stops stop read)

  module _ (parameters : Entries) (first : ReadsWhere parameters_of (Ok parameters) shelf asked.parameters) (mid : Option Held) (stays : Stays shelf mid) where
    -- the table of surfaces is not
    pub by_surfaces : (stop : TableStop) → ReadsWhere surfaces_of (Err stop) mid asked.surfaces → ReadsTables (Err (surfaces_stop stop)) shelf asked
    by_surfaces (stops.Refused refusal) read =
        let third = some_stands names_of shelf asked.names in
        join (Good parameters) (Refused refusal) third.0 (good_stands parameters_of shelf asked.parameters parameters first)
        (stands_before surfaces_of shelf mid asked.surfaces (Refused refusal) stays (refused_stands surfaces_of mid asked.surfaces refusal read)) third.1
    by_surfaces stops.ShelfFault read = tt
    by_surfaces stops.Memory read = tt

    module _ (surfaces : SurfaceEntries) (second : ReadsWhere surfaces_of (Ok surfaces) mid asked.surfaces) (last : Option Held) (stays_then : Stays mid last) where
      joined : (names : Tabled NameEntries) → StandsWhere names_of last asked.names names → StandsAs shelf asked (together_by (Good parameters) (Good surfaces) names)
      joined names third =
          join (Good parameters) (Good surfaces) names (good_stands parameters_of shelf asked.parameters parameters first)
          (stands_before surfaces_of shelf mid asked.surfaces (Good surfaces) stays (good_stands surfaces_of mid asked.surfaces surfaces second))
          (stands_before names_of shelf last asked.names names (stays_along shelf mid last stays stays_then) third)

      -- the table of names is not
      last_stops : (stop : TableStop) → ReadsWhere names_of (Err stop) last asked.names → ReadsTables (Err (table_stop stop)) shelf asked
      last_stops (stops.Refused refusal) read = joined (Refused refusal) (refused_stands names_of last asked.names refusal read)
      last_stops stops.ShelfFault read = tt
      last_stops stops.Memory read = tt

      pub by_names : (result : Result Tables TablesStop) (stop : TableStop) → ReadsWhere names_of (Err stop) last asked.names → IsErrAnd result (λ e. e ≡ table_stop stop)
          → ReadsTables result shelf asked
      by_names (Ok tables) stop read err = absurd err
      by_names (Err e) stop read err = rw err (last_stops stop read)

      pub all_good : (names : NameEntries) → ReadsWhere names_of (Ok names) last asked.names
          → ReadsTables (Ok (record { parameters = parameters; surfaces = surfaces; names = names })) shelf asked
      all_good names read = joined (Good names) (good_stands names_of last asked.names names read)
