-- A load and a store on two lines.
use Rattle.std.specs.Prelude.{[], ◌∷◌}
use Rattle.hem_base.specs.declared.ids.Firing.{Firing}
use Rattle.hem_text.specs.Tokens.{start_place}
use Rattle.hem_examples.specs.Trees.{wide_mid_and_leaf}
use Rattle.hem_examples.specs.Examples.{Example, at, at_from, message, free_local, quiet_cell, block}
use Rattle.hem_examples.specs.Names.{invalid, shared, modified, ld_id, st_id, ldr_id, str_id, gets_hit, getm_hit, gets_up, gets_resp, ld_miss, st_miss, ld_resp, st_resp}

-- a firing on the second line
abbrev pub second : Firing → Firing
second f = record f { line = record { 0 = 1 } }

-- object 2 loads on the first line while object 4 stores on the second
abbrev pub two_lines : Example
two_lines =
    record {
      tree = wide_mid_and_leaf;
      work =
          record {
            place = start_place;
            lines = 2;
            self_count = 0;
            requests = ([] ∷ [] ∷ (message ld_id 0 ∷ []) ∷ [] ∷ [] ∷ []) ∷ ([] ∷ [] ∷ [] ∷ [] ∷ (message st_id 9 ∷ []) ∷ []) ∷ [];
          };
      history =
          at 2 ld_miss
          ∷ second (at 4 st_miss)
          ∷ at_from 1 gets_up 2
          ∷ second (at_from 0 getm_hit 4)
          ∷ at_from 0 gets_hit 1
          ∷ second (at 4 st_resp)
          ∷ at 1 gets_resp
          ∷ at 2 ld_resp
          ∷ [];
      end =
          (quiet_cell (free_local (modified ∷ []) (shared ∷ invalid ∷ []) 0) []
          ∷ quiet_cell (free_local (shared ∷ []) (shared ∷ invalid ∷ []) 0) []
          ∷ quiet_cell (free_local (shared ∷ []) [] 0) (message ldr_id 0 ∷ [])
          ∷ quiet_cell (free_local (invalid ∷ []) [] 0) []
          ∷ quiet_cell (free_local (invalid ∷ []) [] 0) []
          ∷ [])
          ∷ (quiet_cell (free_local (modified ∷ []) (invalid ∷ modified ∷ []) 0) []
          ∷ quiet_cell (free_local (invalid ∷ []) (invalid ∷ invalid ∷ []) 0) []
          ∷ quiet_cell (free_local (invalid ∷ []) [] 0) []
          ∷ quiet_cell (free_local (invalid ∷ []) [] 0) []
          ∷ quiet_cell (free_local (modified ∷ []) [] 9) (message str_id 0 ∷ [])
          ∷ [])
          ∷ [];
      numbers = 0 ∷ 1 ∷ 0 ∷ 1 ∷ 0 ∷ 1 ∷ 0 ∷ 0 ∷ [];
      order = 1 ∷ 3 ∷ 0 ∷ 2 ∷ 4 ∷ 5 ∷ 6 ∷ 7 ∷ [];
      blocks =
          block 0 (at 2 ld_miss ∷ at_from 1 gets_up 2 ∷ at_from 0 gets_hit 1 ∷ at 1 gets_resp ∷ at 2 ld_resp ∷ [])
          ∷ block 1 (second (at 4 st_miss) ∷ second (at_from 0 getm_hit 4) ∷ second (at 4 st_resp) ∷ [])
          ∷ [];
    }
