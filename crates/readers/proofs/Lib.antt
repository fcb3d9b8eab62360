-- What can be told from a view of a row, and views worked out.
pub mod Views
pub mod WorkedViews
