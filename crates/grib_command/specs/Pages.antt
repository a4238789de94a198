-- The pages that the program prints of itself.
use Rattle.std.specs.Prelude.{ℕ, List, [], ◌∷◌, codes}
use Rattle.std.specs.List.{concat}
use Rattle.grib_command.specs.declared.page.Page.{Page}
use Rattle.grib_command.specs.declared.page.Page.TheVariants.{Help, Version}

-- each command with the names of its arguments, the arguments on what is gone past, and where the
-- rest is told
abbrev pub help_lines : List (List ℕ)
help_lines =
    codes "grib check                                        lines on messages and input\n"
    ∷ codes "grib list [with=KEY,..] [names=FILE]              a line for each field\n"
    ∷ codes "grib keys [show=KEY,..] [names=FILE]              the keys of each field\n"
    ∷ codes "grib dump [decimals=0..18] [place=yes]            the points of each field\n"
    ∷ codes "grib values [as=f8|f4]                            fields as arrays of NumPy\n"
    ∷ codes "grib coordinates                                  places of points, likewise\n"
    ∷ codes "grib stats                                        counts and extremes of fields\n"
    ∷ codes "grib filter KEY=VALUE .. [name=N,.. names=FILE]   fields that have these values\n"
    ∷ codes "grib split out=NAME [editions=both]               fields as files NAME.1, NAME.2\n"
    ∷ codes "grib set KEY=VALUE .. [dates=valid]               new values of keys\n"
    ∷ codes "grib repack to=0|2|3|42|least [order=1|2]         fields packed anew\n"
    ∷ codes "grib migrate params=FILE [local=keep|ecmwf]       edition 1 to edition 2\n"
    ∷ codes "grib migrate .. [surfaces=FILE]                   names that say their level\n"
    ∷ codes "grib demote params=FILE [local=keep] [earth=any]  edition 2 to edition 1\n"
    ∷ codes "grib demote .. [tables=any]                       by records of any tables\n"
    ∷ codes "grib rescan                                       points in scanning mode 0\n"
    ∷ codes "grib crop i0=N i1=N j0=N j1=N                     a box of each grid\n"
    ∷ codes "grib crop north=D south=D west=D east=D           a box in degrees\n"
    ∷ codes "grib crop lat=D lon=D                             the nearest point\n"
    ∷ codes "grib compare with=FILE [sections=all] [quiet=yes] fields beside those of a file\n"
    ∷ codes "grib make seed=N ni=N nj=N to=0|2|3 [order=1|2]   a message made from a number\n"
    ∷ codes "grib help                                         this page\n"
    ∷ codes "grib version                                      the version of this program\n"
    ∷ codes "Further arguments, in any place:\n"
    ∷ codes "check to stats [refused=pass]                     goes on after what is refused\n"
    ∷ codes "filter to crop [refused=copy|pass]                the same, or copies it\n"
    ∷ codes "filter to crop [kept=copy|pass]                   goes on after what cannot be changed\n"
    ∷ codes "dump, values, coordinates [kept=pass]             the same\n"
    ∷ codes "check to compare [profile=open]                   any grid, product and packing\n"
    ∷ codes "Messages come from standard input and go to standard output. The pages: man grib\n"
    ∷ []

abbrev pub text_of : Page → List ℕ
text_of Help = concat help_lines
text_of Version = codes "grib 1.0.0-alpha\n"
