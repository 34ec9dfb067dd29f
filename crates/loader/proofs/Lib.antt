-- Laws of the fields of a record text, put into a table.
pub mod Loading
