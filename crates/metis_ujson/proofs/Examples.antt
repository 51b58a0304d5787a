-- Computed examples.
use Rattle.std.proofs.Common.{◌≡◌, [], ◌∷◌, ◌++◌, codes, refl}
use Rattle.std.specs.Fmt.{digits}
use Rattle.json.specs.Print.{escape_byte}
use Rattle.metis_universe.specs.Terms.{Universe, universe_of}
use Rattle.metis_ujson.specs.Terms.{canonical}

no_types : Universe
no_types = universe_of 1 [] [] []

canonical-no_types : canonical no_types ≡ codes "{\"aeolus\":1,\"types\":[]}\n"
unfolding no_types digits escape_byte
canonical-no_types = refl

-- Db goes from off to on, which provides sql; Web goes from off to run, which requires it
web : Universe
web = record {
  version = 1;
  kinds = record { name = codes "Db"; initial = 0 } ∷ record { name = codes "Web"; initial = 2 } ∷ [];
  pairs =
      record { kind = 0; state = codes "off"; provided = []; required = []; further = []; next = 1 ∷ [] }
      ∷ record { kind = 0; state = codes "on"; provided = 0 ∷ []; required = []; further = []; next = [] }
      ∷ record { kind = 1; state = codes "off"; provided = []; required = []; further = []; next = 3 ∷ [] }
      ∷ record { kind = 1; state = codes "run"; provided = []; required = 0 ∷ []; further = 0 ∷ []; next = [] } ∷ [];
  ports = codes "sql" ∷ [];
}

canonical-web : canonical web ≡
    codes "{\"aeolus\":1,\"types\":[{\"initial\":\"off\",\"name\":\"Db\",\"states\":[{\"name\":\"off\",\"next\":[\"on\"],\"provide\":[],\"require\":[]},{\"name\":\"on\",\"next\":[],\"provide\":[\"sql\"],\"require\":[]}]},"
    ++ codes "{\"initial\":\"off\",\"name\":\"Web\",\"states\":[{\"name\":\"off\",\"next\":[\"run\"],\"provide\":[],\"require\":[]},{\"name\":\"run\",\"next\":[],\"provide\":[],\"require\":[\"sql\"]}]}]}\n"
unfolding web digits escape_byte
canonical-web = refl

-- in version 2 a web server may ask for three of them
web_of_three : Universe
web_of_three = record {
  version = 2;
  kinds = record { name = codes "Web"; initial = 0 } ∷ [];
  pairs =
      record { kind = 0; state = codes "off"; provided = []; required = []; further = []; next = 1 ∷ [] }
      ∷ record { kind = 0; state = codes "run"; provided = []; required = 0 ∷ 1 ∷ []; further = 2 ∷ 0 ∷ []; next = [] } ∷ [];
  ports = codes "sql" ∷ codes "log" ∷ [];
}

canonical-web_of_three : canonical web_of_three ≡
    codes "{\"aeolus\":2,\"types\":[{\"initial\":\"off\",\"name\":\"Web\",\"states\":[{\"name\":\"off\",\"next\":[\"run\"],\"provide\":[],\"require\":[]},"
    ++ codes "{\"name\":\"run\",\"next\":[],\"provide\":[],\"require\":[{\"count\":3,\"port\":\"sql\"},\"log\"]}]}]}\n"
unfolding web_of_three digits escape_byte
canonical-web_of_three = refl
