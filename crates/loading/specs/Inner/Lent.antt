-- What is lent and only read, as its slices have it now.
use Rattle.loading.specs.Loading.{Lent}
use Rattle.loading.specs.declared.Lent.{Lent as Slices}

abbrev pub bytes_of : Slices → Lent
bytes_of s =
    record {
      special = s.special.now;
      journal = s.journal.now;
      records = s.records.now;
      new = s.new.now;
      codes = s.codes.now;
    }
