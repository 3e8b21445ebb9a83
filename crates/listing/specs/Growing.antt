-- A difference list as it is written, before and after entries are listed.
-- Assumes nothing.
use Rattle.std.specs.Prelude.{◌≡◌, List, ◌++◌}
use Rattle.answers.specs.Differences.{Entry}
use Rattle.listing.specs.declared.List.{List as Written}
use Rattle.listing.specs.Listing.{Listed}

-- entries behind those of a list, in the memory that was lent for it
pub record Grown (l m : Written) (es : List Entry) : Type 0 where
  pub lent : m.out.ghost_name ≡ l.out.ghost_name
  pub listed : Listed l.out.now m.out.now l.length.bytes m.length.bytes es

-- of the entries `all`, to be listed behind those of a list, some are listed, and `todo` are still to come
pub record Listing (all : List Entry) (l m : Written) (todo : List Entry) : Type 0 where
  pub done : List Entry
  pub grown : Grown l m done
  pub whole : all ≡ done ++ todo
