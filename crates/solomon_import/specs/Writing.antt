-- What stands in the buffer before the distances do.
use Rattle.std.specs.Prelude.{ℕ, List, ◌++◌, length}
use Rattle.sheet_writer.specs.Sheet.{header_record, row_record, vehicle_record, records_bytes}
use Rattle.solomon_import.specs.Instance.{customers_of, capacity_of}
use Rattle.solomon_import.specs.Import.{rows_fields_from, vehicle_fields_of}

-- header, rows and vehicle
unfoldable pub records_of : List ℕ → List ℕ
records_of text =
    header_record (length (customers_of text)) 1 1 0
    ++ records_bytes row_record (rows_fields_from 0 (customers_of text))
    ++ vehicle_record (vehicle_fields_of (capacity_of text))
